use Rattle.transfer.proofs.Laws.{first-refused, first_done}
use Rattle.transfer.proofs.write_first.Goals as goal

pub returns-in-Ok : goal.returns-in-Ok
returns-in-Ok c = search first_done

pub returns-in-Err : goal.returns-in-Err
returns-in-Err c = search first-refused
