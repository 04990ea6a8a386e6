use Rattle.files.specs.Parts.{opening}
use Rattle.files.proofs.open_block.Goals as goal

pub returns : goal.returns
unfolding opening
returns c = cc
