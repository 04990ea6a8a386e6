use Rattle.rules.specs.Files.{rewind}
use Rattle.files.proofs.rewind.Goals as goal

pub returns : goal.returns
unfolding rewind
returns c = cc
