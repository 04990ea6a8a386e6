use Rattle.transfer.proofs.Laws.{fill-bad, fill_done}
use Rattle.transfer.proofs.write_last.Goals as goal

pub returns-then-not-is_data : goal.returns-then-not-is_data
returns-then-not-is_data c = search fill-bad

pub returns : goal.returns
returns c = search fill_done
