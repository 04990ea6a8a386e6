use Rattle.rules.specs.Block.{preset}
use Rattle.blocks.proofs.Laws.{table-wrong, number-wrong, table-right}
use Rattle.blocks.proofs.preset.Goals as goal

pub returns-then-table-ne-TABLE_LENGTH : goal.returns-then-table-ne-TABLE_LENGTH
unfolding preset
returns-then-table-ne-TABLE_LENGTH c = search table-wrong

pub returns-then-fcb-ge-BLOCKS : goal.returns-then-fcb-ge-BLOCKS
unfolding preset
returns-then-fcb-ge-BLOCKS c = search number-wrong

pub returns : goal.returns
unfolding preset
returns c = search table-right
