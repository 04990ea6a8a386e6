use Rattle.std.proofs.Common.{rules}
use Rattle.rules.specs.Block.{extensions}
use Rattle.blocks.proofs.extension_of.Goals as goal

pub returns : goal.returns
unfolding extensions
returns c = search rules
