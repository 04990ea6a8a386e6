use Rattle.laws.specs.Tests.{tests}
use Rattle.rules.specs.Bytes.{within}
use Rattle.laws.specs.Slots.{is_displacement}
use Rattle.directory.proofs.is_displacement.Goals as goal

pub returns-then-d-le232 : goal.returns-then-d-le232
unfolding is_displacement within
returns-then-d-le232 c = search tests

pub returns-else-d-le232 : goal.returns-else-d-le232
unfolding is_displacement within
returns-else-d-le232 c = search tests
