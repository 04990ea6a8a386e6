use Rattle.files.proofs.Laws.{next-first, next-further}
use Rattle.files.proofs.next_slot.Goals as goal

pub returns-then-is_before_first : goal.returns-then-is_before_first
returns-then-is_before_first c = search next-first

pub returns : goal.returns
returns c = search next-further
