use native.Mathlib.Omega.{arith}
use Rattle.repair.proofs.Laws.{few-sectors}
use Rattle.repair.proofs.with_marks.Goals as goal

pub with_room-requires-2 : goal.with_room-requires-2
with_room-requires-2 c = (c.data_sectors-n.ensures, few-sectors _ _ _ c.data_sectors-n.ensures c.args.d.limits, omega arith)
