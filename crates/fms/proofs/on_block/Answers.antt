use Rattle.fms.proofs.Layers.{block-right, block-wrong}
use Rattle.fms.proofs.on_block.Goals as goal

pub returns-in-Some : goal.returns-in-Some
returns-in-Some c = search block-right

pub returns-in-None : goal.returns-in-None
returns-in-None c = search block-wrong
