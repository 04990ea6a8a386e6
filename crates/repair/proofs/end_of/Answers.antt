use Rattle.laws.specs.Tests.{tests}
use Rattle.repair.proofs.end_of.Goals as goal

pub returns-then-free-eq0 : goal.returns-then-free-eq0
returns-then-free-eq0 c = search tests

pub returns-else-free-eq0 : goal.returns-else-free-eq0
returns-else-free-eq0 c = search tests
