use Rattle.std.proofs.Common.{◌≡◌, false}
use Rattle.rules.specs.Directory.{place_of}
use Rattle.rules.specs.Block.{used_below}
use Rattle.blocks.proofs.in_use.Given as goal

abbrev pub invariant-loop-n : goal.invariant-loop-n
invariant-loop-n l = false ≡ used_below l.readers l.table (place_of l.shape.per l.slot) l.n
