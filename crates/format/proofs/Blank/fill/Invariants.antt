use mathlib.Core.Path.{◌≡◌}
use Rattle.rules.specs.Bytes.{over}
use Rattle.rules.specs.Format.{blank_to}
use Rattle.format.specs.Volumes.{of_volume}
use Rattle.format.proofs.Blank.fill.Given as goal

abbrev pub invariant-loop-k : goal.invariant-loop-k
invariant-loop-k l = l.image ≡ over l.initial.image 0 (of_volume (blank_to l.self.diskette.shape.last l.self.diskette.shape.per) l.self.volume l.k)
