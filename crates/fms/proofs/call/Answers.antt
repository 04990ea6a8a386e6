use Rattle.fms.proofs.Layers.{call-table, call-number, call-on}
use Rattle.fms.proofs.call.Goals as goal

pub returns-then-table-ne-TABLE_LENGTH : goal.returns-then-table-ne-TABLE_LENGTH
returns-then-table-ne-TABLE_LENGTH c = search call-table

pub returns-then-fcb-ge-BLOCKS : goal.returns-then-fcb-ge-BLOCKS
returns-then-fcb-ge-BLOCKS c = search call-number

pub returns : goal.returns
returns c = search call-on
