use Rattle.std.proofs.Common.{◌≡◌, length, replicate, take}
use Rattle.cells.proofs.fill.Given as goal

abbrev pub invariant-loop-x : goal.invariant-loop-x
invariant-loop-x g l = take l.x-index l.s ≡ take l.x-index (replicate (length l.initial.s) l.v)
