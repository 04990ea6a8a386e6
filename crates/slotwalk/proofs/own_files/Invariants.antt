use mathlib.Core.Path.{◌≡◌}
use Prim.Native.Nat.{◌+◌, ◌*◌, ◌≤◌}
use lib.ListN.{length}
use Rattle.rules.specs.Bytes.{over}
use Rattle.rules.specs.Directory.{slots}
use Rattle.directory.specs.Walks.{slots_left}
use Rattle.census_laws.specs.Numbered.{files_numbered}
use Rattle.slotwalk.proofs.own_files.Given as goal

abbrev pub invariant-loop-slot : goal.invariant-loop-slot
invariant-loop-slot l =
    (goal.iterator-loop-slot).can_next l.slot-iterator × (goal.iterator-loop-slot).is_finite l.slot-iterator
    × (over l.initial.out l.from (files_numbered l.image 1 (slots l.image l.fn.shape.last l.fn.shape.per)) ≡ over l.out l.at (files_numbered l.image l.owner (slots_left l.slot-iterator)))
    × (l.at + 65536 * length (slots_left l.slot-iterator) ≤ 47244640256)
