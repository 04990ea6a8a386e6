use Rattle.rules.specs.Block.{extension}
use Rattle.blocks.proofs.Laws.{table-wrong, number-wrong, table-right}
use Rattle.blocks.proofs.default_extension.Goals as goal

pub returns-then-table-ne-TABLE_LENGTH : goal.returns-then-table-ne-TABLE_LENGTH
unfolding extension
returns-then-table-ne-TABLE_LENGTH c = search table-wrong

pub returns-then-fcb-ge-BLOCKS : goal.returns-then-fcb-ge-BLOCKS
unfolding extension
returns-then-fcb-ge-BLOCKS c = search number-wrong

pub returns : goal.returns
unfolding extension
returns c = search table-right
