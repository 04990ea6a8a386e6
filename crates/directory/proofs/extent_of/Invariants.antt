use Rattle.std.proofs.Common.{◌≡◌, ◌+◌, ◌≤◌, length}
use Rattle.directory.specs.Extents.{extent_of}
use Rattle.directory.specs.Walks.{sectors_left}
use Rattle.directory.proofs.Laws.{extent_from}
use Rattle.directory.proofs.extent_of.Given as goal

abbrev pub invariant-loop-k : goal.invariant-loop-k
invariant-loop-k l =
    (goal.iterator-loop-k).can_next l.k-iterator × (goal.iterator-loop-k).is_finite l.k-iterator
    × (extent_of l.image l.fn.shape.last l.fn.shape.per ≡ extent_from (sectors_left l.k-iterator) l.end l.count)
    × (l.count + length (sectors_left l.k-iterator) ≤ 65535)
