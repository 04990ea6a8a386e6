use Rattle.fms.proofs.Activities.{misfit-closed, misfit-open, misfit-other}
use Rattle.fms.proofs.function.Function.misfit.Goals as goal

pub returns-in-Close-true : goal.returns-in-Close-true
returns-in-Close-true c = search misfit-closed

pub returns-in_default : goal.returns-in_default
returns-in_default c = search misfit-open

pub returns-in_default-2 : goal.returns-in_default-2
returns-in_default-2 c = search misfit-other
