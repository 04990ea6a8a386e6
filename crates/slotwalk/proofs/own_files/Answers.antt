use Rattle.std.proofs.Common.{ap, length}
use native.Mathlib.Omega.{arith}
use Rattle.slotwalk.proofs.Laws.{own-none, own-next}
use Rattle.slotwalk.proofs.own_files.Goals as goal

pub loop-slot-preserved : goal.loop-slot-preserved
loop-slot-preserved c = (tt, tt, search (own-next, c.in-Some.ensures.steps), omega (arith, ap length c.in-Some.ensures.steps))

pub returns : goal.returns
returns c = search (own-none, c.in-None.ensures.steps.0)
