use Rattle.slotwalk.proofs.Laws.{spot-begins, probed_all, probed-free, probed-taken, probed-on}
use Rattle.slotwalk.proofs.spot_of.Goals as goal

pub loop-init : goal.loop-init
loop-init c = search spot-begins

pub returns-then-e-eq0 : goal.returns-then-e-eq0
returns-then-e-eq0 c = search probed-free

pub returns-then-is_own : goal.returns-then-is_own
returns-then-is_own c = search probed-taken

pub loop-preserved : goal.loop-preserved
loop-preserved c = search probed-on

pub returns : goal.returns
returns c = search probed_all
