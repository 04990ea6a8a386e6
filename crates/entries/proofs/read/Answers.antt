use Rattle.std.proofs.Common.{arith}
use Rattle.entries.proofs.Laws.{read-more, read-end}
use Rattle.entries.proofs.read.Goals as goal

pub loop-i-preserved : goal.loop-i-preserved
loop-i-preserved c = read-more _ _ _ _ _ c.loop-i.invariant (omega (arith, c.loop-i.auto.bytes, c.loop-i-test.true)) c.loop-i-test.true c.get_in.ensures

pub returns : goal.returns
returns c = read-end _ _ _ _ _ c.loop-i.invariant c.loop-i.auto.bytes c.loop-i-test.false c.loop-i.auto.i-end
