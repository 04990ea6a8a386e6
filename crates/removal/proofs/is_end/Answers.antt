use Rattle.laws.specs.Tests.{tests}
use Rattle.removal.specs.Hanging.{is_end}
use Rattle.removal.proofs.is_end.Goals as goal

pub returns-then-free-eq0 : goal.returns-then-free-eq0
unfolding is_end
returns-then-free-eq0 c = search tests

pub returns-else-free-eq0 : goal.returns-else-free-eq0
unfolding is_end
returns-else-free-eq0 c = search tests
