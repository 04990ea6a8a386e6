use Rattle.std.proofs.Common.{◌≡◌, take}
use Rattle.cells.proofs.overlay.Given as goal

abbrev pub invariant-loop-i : goal.invariant-loop-i
invariant-loop-i g l = take l.i l.dst ≡ take l.i l.src
