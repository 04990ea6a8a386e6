use Rattle.transfer.proofs.Laws.{next_start, next-link}
use Rattle.transfer.proofs.next_to_read.Goals as goal

pub returns-then-position-eq0 : goal.returns-then-position-eq0
returns-then-position-eq0 c = search next_start

pub returns : goal.returns
returns c = search next-link
