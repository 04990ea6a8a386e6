use mathlib.Core.Path.{◌≡◌}
use Prim.Native.Nat.{◌-◌}
use lib.ListN.{length}
use Rattle.repair.specs.Passes.{walk}
use Rattle.repair.proofs.keep.Given as goal

abbrev pub invariant-loop-count : goal.invariant-loop-count
invariant-loop-count l = (walk l.image l.shape.last l.shape.per l.size l.start 0 0 l.initial.marks ≡ walk l.image l.shape.last l.shape.per (l.size - l.count) l.a l.end l.count l.marks) × (length l.marks ≡ length l.initial.marks)
