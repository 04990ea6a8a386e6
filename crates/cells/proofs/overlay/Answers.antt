use Rattle.std.proofs.Common.{arith}
use Rattle.cells.proofs.Laws.{laid-more, laid-end}
use Rattle.cells.proofs.overlay.Goals as goal

pub loop-i-preserved : goal.loop-i-preserved
loop-i-preserved g c = laid-more _ _ _ c.loop-i.invariant _ (omega (arith, c.loop-i.auto.dst, c.loop-i-test.true)) (omega (arith, c.requires, c.loop-i-test.true)) c.index-src-i.is

pub returns : goal.returns
returns g c = laid-end _ _ _ c.loop-i.invariant _ c.loop-i.auto.dst c.loop-i-test.false c.loop-i.auto.i-end
