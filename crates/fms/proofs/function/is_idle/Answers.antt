use Rattle.laws.specs.Tests.{tests}
use Rattle.rules.specs.Block.{idle}
use Rattle.fms.proofs.function.is_idle.Goals as goal

pub returns-then-act : goal.returns-then-act
unfolding idle
returns-then-act c = search tests

pub returns-else-act : goal.returns-else-act
unfolding idle
returns-else-act c = search tests
