use mathlib.Core.Path.{◌≡◌}
use lib.ListN.{length, take}
use Rattle.rules.specs.Bytes.{over}
use Rattle.rules.specs.Host.{as_bytes}
use Rattle.census_bytes.proofs.spread.Given as goal

abbrev pub invariant-loop-i : goal.invariant-loop-i
invariant-loop-i l = l.out ≡ over l.initial.out 0 (as_bytes (take l.i l.numbers))
