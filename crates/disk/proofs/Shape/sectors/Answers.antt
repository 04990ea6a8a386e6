use mathlib.Core.Path.{refl}
use Prim.Native.Nat.{◌+◌}
use native.Mathlib.Omega.{arith}
use Rattle.disk.proofs.Laws.{product}
use Rattle.disk.proofs.Shape.sectors.Goals as goal

pub overflow_mul-result : goal.overflow_mul-result
overflow_mul-result c = omega (arith, product (c.args.self.last + 1) c.args.self.per (omega arith) (omega arith))

pub returns : goal.returns
returns c = (refl, product (c.args.self.last + 1) c.args.self.per (omega arith) (omega arith))
