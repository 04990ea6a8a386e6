use Rattle.std.proofs.Common.{sym, refl, arith}
use Rattle.laws.specs.Bytes.{over-out}
use Rattle.cells.proofs.Laws.{laid-all, laid-rest}
use Rattle.cells.proofs.store.Goals as goal

pub returns-then-dst-at : goal.returns-then-dst-at
returns-then-dst-at g c = sym (over-out _ _ _ c.if-dst-at.true)

pub returns-then-dst-at-2 : goal.returns-then-dst-at-2
returns-then-dst-at-2 g c = laid-rest _ _ _ _ (omega (arith, c.if-dst-at)) (omega arith) _ refl c.if-dst-at-2.true c.overlay.ensures

pub returns : goal.returns
returns g c = laid-all _ _ _ _ (omega arith) (omega (arith, c.if-dst-at, c.if-dst-at-2)) _ refl c.overlay-2.ensures
