use Rattle.laws.specs.Tests.{tests}
use Rattle.rules.specs.Directory.{step_to}
use Rattle.directory.proofs.step_to.Goals as goal

pub returns-then-a-eq0 : goal.returns-then-a-eq0
unfolding step_to
returns-then-a-eq0 c = search tests

pub returns-then-not-is_directory : goal.returns-then-not-is_directory
unfolding step_to
returns-then-not-is_directory c = search tests

pub returns : goal.returns
unfolding step_to
returns c = search tests
