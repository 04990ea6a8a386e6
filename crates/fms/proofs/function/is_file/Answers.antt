use Rattle.laws.specs.Tests.{tests}
use Rattle.rules.specs.Bytes.{within}
use Rattle.fms.proofs.function.is_file.Goals as goal

pub returns-then-act : goal.returns-then-act
unfolding within
returns-then-act c = search tests

pub returns-else-act : goal.returns-else-act
unfolding within
returns-else-act c = search tests
