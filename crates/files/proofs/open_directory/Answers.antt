use Rattle.rules.specs.Files.{open_directory}
use Rattle.files.proofs.open_directory.Goals as goal

pub returns : goal.returns
unfolding open_directory
returns c = cc
