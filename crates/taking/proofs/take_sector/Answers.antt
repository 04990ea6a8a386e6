use Rattle.taking.proofs.Laws.{taken_at, taken-none}
use Rattle.taking.proofs.take_sector.Goals as goal

pub returns-in-Ok : goal.returns-in-Ok
returns-in-Ok c = search taken_at

pub returns-in-Err : goal.returns-in-Err
returns-in-Err c = search taken-none
