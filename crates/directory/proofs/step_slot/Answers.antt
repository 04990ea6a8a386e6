use Rattle.directory.proofs.Laws.{next-by, behind-near, behind-end, behind-astray, behind-to}
use Rattle.directory.proofs.step_slot.Goals as goal

pub returns-then-slot-lt232 : goal.returns-then-slot-lt232
returns-then-slot-lt232 c = search behind-near

pub returns-in-End : goal.returns-in-End
returns-in-End c = search (behind-end, next-by)

pub returns-in-Astray : goal.returns-in-Astray
returns-in-Astray c = search (behind-astray, next-by)

pub returns-in-To : goal.returns-in-To
returns-in-To c = search (behind-to, next-by)
