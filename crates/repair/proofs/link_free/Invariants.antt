use mathlib.Core.Path.{◌≡◌}
use Prim.Native.Nat.{◌+◌, ◌*◌, ◌≤◌}
use lib.ListN.{length}
use Rattle.repair.specs.Passes.{no_free, chaining}
use Rattle.repair.proofs.link_free.Given as goal

abbrev pub invariant-loop-n : goal.invariant-loop-n
invariant-loop-n l =
    (chaining l.shape.per l.marks (l.shape.last * l.shape.per) no_free l.initial.image ≡ chaining l.shape.per l.marks l.n l.free l.image)
    × (l.free.count + l.n ≤ l.shape.last * l.shape.per) × (length l.image ≡ length l.initial.image)
