use native.Mathlib.Omega.{arith}
use Rattle.repair.proofs.with_room.Goals as goal

pub whole_as_front-tried : goal.whole_as_front-tried
whole_as_front-tried g c = (omega arith, omega arith)
