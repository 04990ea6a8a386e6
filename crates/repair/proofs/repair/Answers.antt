use Rattle.repair.proofs.Laws.{repair-table, repair-open, repair-wrong, repair-right, repair-shape}
use Rattle.repair.proofs.repair.Goals as goal

pub returns-then-table-ne-TABLE_LENGTH : goal.returns-then-table-ne-TABLE_LENGTH
returns-then-table-ne-TABLE_LENGTH c = search repair-table

pub returns-then-not-all_closed : goal.returns-then-not-all_closed
returns-then-not-all_closed c = search repair-open

pub invariant_of-with_marks : goal.invariant_of-with_marks
invariant_of-with_marks c = record { limits = search repair-shape }

pub returns-in-Some : goal.returns-in-Some
returns-in-Some c = search repair-right

pub returns-in-None : goal.returns-in-None
returns-in-None c = search repair-wrong
