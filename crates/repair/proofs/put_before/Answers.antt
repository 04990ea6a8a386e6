use native.Mathlib.Omega.{arith}
use Rattle.repair.proofs.Laws.{address-cast, before-is}
use Rattle.repair.proofs.put_before.Goals as goal

pub overflow_cast-a : goal.overflow_cast-a
overflow_cast-a c = search (address-cast, arith)

pub returns : goal.returns
returns c = search before-is
