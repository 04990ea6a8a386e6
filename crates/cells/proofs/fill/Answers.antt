use Rattle.cells.proofs.Laws.{filled-more, filled-end}
use Rattle.cells.proofs.fill.Goals as goal

pub loop-x-preserved : goal.loop-x-preserved
loop-x-preserved g c = filled-more _ _ _ _ c.loop-x.invariant c.loop-x.auto.s c.loop-x-test.true

pub returns : goal.returns
returns g c = filled-end _ _ _ _ c.loop-x.invariant c.loop-x.auto.s c.loop-x-test.false c.loop-x.auto.x-index-end
