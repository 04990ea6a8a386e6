use Rattle.slotwalk.proofs.Laws.{twins-here, twins-next}
use Rattle.rules.specs.Census.{twins}
use Rattle.std.proofs.Common.{rules}
use Rattle.slotwalk.proofs.has_pair.Goals as goal

pub returns-then-has_twin : goal.returns-then-has_twin
returns-then-has_twin c = search (twins-here, c.in-Some.ensures.steps)

pub loop-slot-preserved : goal.loop-slot-preserved
loop-slot-preserved c = search (twins-next, c.in-Some.ensures.steps)

pub returns : goal.returns
unfolding twins
returns c = search rules
