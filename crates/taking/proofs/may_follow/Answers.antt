use Rattle.laws.specs.Tests.{tests}
use Rattle.taking.specs.Take.{follows}
use Rattle.taking.proofs.may_follow.Goals as goal

pub returns-then-position-eq0 : goal.returns-then-position-eq0
unfolding follows
returns-then-position-eq0 c = search tests

pub returns-else-position-eq0 : goal.returns-else-position-eq0
unfolding follows
returns-else-position-eq0 c = search tests
