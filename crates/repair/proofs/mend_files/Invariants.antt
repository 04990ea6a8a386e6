use mathlib.Core.Path.{◌≡◌}
use Prim.Native.Nat.{◌-◌}
use lib.ListN.{length}
use Rattle.laws.specs.Visits.{most_slots, first_slot}
use Rattle.repair.specs.Passes.{files_mended}
use Rattle.repair.proofs.mend_files.Given as goal

abbrev pub invariant-loop : goal.invariant-loop
invariant-loop l =
    (files_mended l.shape.last l.shape.per (most_slots l.shape.last l.shape.per) first_slot l.initial.image l.initial.marks ≡ files_mended l.shape.last l.shape.per (l.end - l.counter) l.slot l.image l.marks)
    × (length l.image ≡ length l.initial.image) × (length l.marks ≡ length l.initial.marks)
