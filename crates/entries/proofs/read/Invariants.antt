use Rattle.std.proofs.Common.{◌≡◌, take, length}
use Rattle.rules.specs.Bytes.{part}
use Rattle.entries.proofs.read.Given as goal

abbrev pub invariant-loop-i : goal.invariant-loop-i
invariant-loop-i l = take l.i l.bytes ≡ take l.i (part l.buffer l.at (length l.initial.bytes))
