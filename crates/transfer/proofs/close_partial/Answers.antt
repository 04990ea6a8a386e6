use Rattle.transfer.proofs.Laws.{partial-bad, partial-done}
use Rattle.transfer.proofs.close_partial.Goals as goal

pub returns-then-not-is_data : goal.returns-then-not-is_data
returns-then-not-is_data c = search partial-bad

pub returns : goal.returns
returns c = search partial-done
