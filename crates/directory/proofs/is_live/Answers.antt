use Rattle.laws.specs.Tests.{tests}
use Rattle.rules.specs.Directory.{live, never_used, deleted}
use Rattle.directory.proofs.is_live.Goals as goal

pub returns-then-b-ne0 : goal.returns-then-b-ne0
unfolding live never_used deleted
returns-then-b-ne0 c = search tests

pub returns-else-b-ne0 : goal.returns-else-b-ne0
unfolding live never_used deleted
returns-else-b-ne0 c = search tests
