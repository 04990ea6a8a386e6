use mathlib.Core.Path.{refl}
use Rattle.repair.proofs.Laws.{closed_all, closed-not, closed_on}
use Rattle.repair.proofs.all_closed.Goals as goal

pub loop-n-init : goal.loop-n-init
loop-n-init c = refl

pub returns-then-get-ne0 : goal.returns-then-get-ne0
returns-then-get-ne0 c = search closed-not

pub loop-n-preserved : goal.loop-n-preserved
loop-n-preserved c = search closed_on

pub returns : goal.returns
returns c = search closed_all
