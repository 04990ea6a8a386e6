use mathlib.Core.Path.{◌≡◌}
use Prim.Native.Nat.{◌-◌}
use Rattle.census_laws.specs.Walks.{walk}
use Rattle.chainwalk.proofs.walk.Given as goal

abbrev pub invariant-loop-i : goal.invariant-loop-i
invariant-loop-i l = walk l.image l.shape.last l.shape.per l.end l.count 0 l.start l.initial.out l.at 0 ≡ walk l.image l.shape.last l.shape.per l.end (l.count - l.i) l.before l.a l.out l.at l.i
