use Rattle.blocks.proofs.Laws.{idle-ok, idle-none}
use Rattle.blocks.proofs.is_idle.Goals as goal

pub returns-in-Ok : goal.returns-in-Ok
returns-in-Ok c = search idle-ok

pub returns-in-Err : goal.returns-in-Err
returns-in-Err c = search idle-none
