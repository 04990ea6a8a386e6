use Rattle.transfer.proofs.Laws.{empty-at, empty-none}
use Rattle.transfer.proofs.close_empty.Goals as goal

pub returns-in-Ok : goal.returns-in-Ok
returns-in-Ok c = search empty-at

pub returns-in-Err : goal.returns-in-Err
returns-in-Err c = search empty-none
