use Rattle.files.proofs.Laws.{grow-refused, grow-done}
use Rattle.files.proofs.grow.Goals as goal

pub returns-in-Ok : goal.returns-in-Ok
returns-in-Ok c = search grow-done

pub returns-in-Err : goal.returns-in-Err
returns-in-Err c = search grow-refused
