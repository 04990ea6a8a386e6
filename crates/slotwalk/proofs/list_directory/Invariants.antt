use mathlib.Core.Path.{◌≡◌}
use Prim.Native.Nat.{◌+◌, ◌≤◌}
use lib.ListN.{length}
use Rattle.rules.specs.Directory.{directory}
use Rattle.directory.specs.Walks.{sectors_left}
use Rattle.census_laws.specs.Walks.{sectors}
use Rattle.slotwalk.proofs.list_directory.Given as goal

abbrev pub invariant-loop-k : goal.invariant-loop-k
invariant-loop-k l =
    (goal.iterator-loop-k).can_next l.k-iterator × (goal.iterator-loop-k).is_finite l.k-iterator
    × (sectors l.shape.per (directory l.image l.shape.last l.shape.per) l.initial.out l.from 0 ≡ sectors l.shape.per (sectors_left l.k-iterator) l.out l.from l.n)
    × (l.n + length (sectors_left l.k-iterator) ≤ 65535)
