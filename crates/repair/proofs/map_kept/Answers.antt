use Rattle.laws.specs.Tests.{tests}
use Rattle.repair.proofs.map_kept.Goals as goal

pub returns-then-count-size : goal.returns-then-count-size
returns-then-count-size c = search tests

pub returns-else-count-size : goal.returns-else-count-size
returns-else-count-size c = search tests
