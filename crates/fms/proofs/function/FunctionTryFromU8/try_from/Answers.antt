use mathlib.Core.Path.{refl}
use Rattle.fms.proofs.Activities.{unserved}
use Rattle.fms.proofs.function.FunctionTryFromU8.try_from.Goals as goal

pub returns-in_default : goal.returns-in_default
returns-in_default c = (refl, search unserved)
