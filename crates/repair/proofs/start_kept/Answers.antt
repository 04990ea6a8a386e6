use Rattle.laws.specs.Tests.{tests}
use Rattle.repair.proofs.start_kept.Goals as goal

pub returns-then-count-eq0 : goal.returns-then-count-eq0
returns-then-count-eq0 c = search tests

pub returns-else-count-eq0 : goal.returns-else-count-eq0
returns-else-count-eq0 c = search tests
