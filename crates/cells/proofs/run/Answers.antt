use Rattle.std.proofs.Common.{sym, refl, arith}
use Rattle.std.specs.Prelude.{[]}
use Rattle.laws.specs.Bytes.{over-out, over_none}
use Rattle.cells.proofs.Laws.{laid-run}
use Rattle.cells.proofs.run.Goals as goal

pub returns-then-n-eq0 : goal.returns-then-n-eq0
returns-then-n-eq0 g c = rw c.if-n-eq0.true (over_none _ _ [])

pub returns-then-at-dst : goal.returns-then-at-dst
returns-then-at-dst g c =
    laid-run _ _ _ _ (omega arith) (omega (arith, c.if-at-dst, c.min-n.ensures)) _ _ _ refl c.min-n.ensures c.fill.ensures

pub returns-else-at-dst : goal.returns-else-at-dst
returns-else-at-dst g c = sym (over-out _ _ _ c.if-at-dst.false)
