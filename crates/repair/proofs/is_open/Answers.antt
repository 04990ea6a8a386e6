use Rattle.repair.proofs.Laws.{open_no, open_by}
use Rattle.repair.proofs.is_open.Goals as goal

pub returns-then-not-is_data : goal.returns-then-not-is_data
returns-then-not-is_data c = search open_no

pub returns : goal.returns
returns c = search open_by
