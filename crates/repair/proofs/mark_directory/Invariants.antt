use mathlib.Core.Path.{◌≡◌}
use lib.ListN.{length}
use Rattle.rules.specs.Directory.{directory}
use Rattle.directory.specs.Walks.{sectors_left}
use Rattle.repair.specs.Passes.{with_marks}
use Rattle.repair.proofs.mark_directory.Given as goal

abbrev pub invariant-loop-k : goal.invariant-loop-k
invariant-loop-k l = (with_marks l.shape.per (directory l.image l.shape.last l.shape.per) l.initial.marks ≡ with_marks l.shape.per (sectors_left l.k-iterator) l.marks) × (length l.marks ≡ length l.initial.marks)
