use Rattle.transfer.proofs.Laws.{load-end, load-bad, load-done}
use Rattle.transfer.proofs.load_at.Goals as goal

pub returns-then-a-eq0 : goal.returns-then-a-eq0
returns-then-a-eq0 c = search load-end

pub returns-then-not-is_data : goal.returns-then-not-is_data
returns-then-not-is_data c = search load-bad

pub returns : goal.returns
returns c = search load-done
