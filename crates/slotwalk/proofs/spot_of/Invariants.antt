use mathlib.Core.Path.{◌≡◌}
use Prim.Native.Nat.{◌-◌}
use Rattle.rules.specs.Bytes.{part}
use Rattle.census_laws.specs.Table.{spot, probe}
use Rattle.slotwalk.proofs.spot_of.Given as goal

abbrev pub invariant-loop : goal.invariant-loop
invariant-loop l = spot l.image l.n l.marks (part l.image l.slot 11) ≡ probe l.image l.n l.marks (part l.image l.slot 11) (l.n - l.counter) l.at
