use Rattle.slotwalk.proofs.Laws.{if-dead, if-live}
use Rattle.slotwalk.proofs.held.Goals as goal

pub returns-then-is_live : goal.returns-then-is_live
returns-then-is_live c = search if-live

pub returns-else-is_live : goal.returns-else-is_live
returns-else-is_live c = search if-dead
