use mathlib.Core.Path.{◌≡◌}
use Rattle.rules.specs.Directory.{slots}
use Rattle.directory.specs.Walks.{slots_left}
use Rattle.census_laws.specs.Table.{entering}
use Rattle.slotwalk.proofs.enter_all.Given as goal

abbrev pub invariant-loop-slot : goal.invariant-loop-slot
invariant-loop-slot l =
    (goal.iterator-loop-slot).can_next l.slot-iterator × (goal.iterator-loop-slot).is_finite l.slot-iterator
    × (entering l.image l.n (slots l.image l.fn.shape.last l.fn.shape.per) l.initial.marks ≡ entering l.image l.n (slots_left l.slot-iterator) l.marks)
