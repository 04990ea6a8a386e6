use mathlib.Core.Path.{◌≡◌}
use Rattle.rules.specs.Block.{blocks}
use Rattle.rules.specs.Repair.{all_closed}
use Rattle.repair.proofs.all_closed.Given as goal

abbrev pub invariant-loop-n : goal.invariant-loop-n
invariant-loop-n l = all_closed l.table blocks ≡ all_closed l.table l.n
