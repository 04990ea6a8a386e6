use mathlib.Core.Path.{◌≡◌}
use lib.ListN.{length}
use Rattle.rules.specs.Directory.{slots}
use Rattle.rules.specs.Census.{twins}
use Rattle.directory.specs.Walks.{slots_left}
use Rattle.slotwalk.proofs.has_pair.Given as goal

abbrev pub invariant-loop-slot : goal.invariant-loop-slot
invariant-loop-slot l = twins l.image (slots l.image l.fn.shape.last l.fn.shape.per) ≡ twins l.image (slots_left l.walk)

abbrev pub decreases-loop-slot : goal.decreases-loop-slot
decreases-loop-slot l = length (slots_left l.walk)
