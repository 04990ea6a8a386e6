use Rattle.taking.proofs.Laws.{off-last, off_next}
use Rattle.taking.proofs.take_off.Goals as goal

pub returns-then-free-eq1 : goal.returns-then-free-eq1
returns-then-free-eq1 c = search off-last

pub returns : goal.returns
returns c = search off_next
