use Rattle.rules.specs.Files.{shown}
use Rattle.files.proofs.show.Goals as goal

pub returns : goal.returns
unfolding shown
returns c = cc
