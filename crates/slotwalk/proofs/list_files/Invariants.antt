use mathlib.Core.Path.{◌≡◌}
use Prim.Native.Nat.{◌+◌, ◌*◌, ◌≤◌}
use lib.ListN.{length}
use Rattle.rules.specs.Directory.{slots}
use Rattle.directory.specs.Walks.{slots_left}
use Rattle.census_laws.specs.Walks.{files}
use Rattle.slotwalk.proofs.list_files.Given as goal

abbrev pub invariant-loop-slot : goal.invariant-loop-slot
invariant-loop-slot l =
    (goal.iterator-loop-slot).can_next l.slot-iterator × (goal.iterator-loop-slot).is_finite l.slot-iterator
    × (files l.image l.shape.last l.shape.per (slots l.image l.shape.last l.shape.per) l.initial.out l.from ≡ files l.image l.shape.last l.shape.per (slots_left l.slot-iterator) l.out l.n)
    × (l.n + 65536 * length (slots_left l.slot-iterator) ≤ 47244640256)
