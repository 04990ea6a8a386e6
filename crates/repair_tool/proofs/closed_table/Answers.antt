use mathlib.Core.Path.{refl}
use Rattle.rules.specs.Bytes.{zeros}
use Rattle.repair_tool.specs.Reported.{closed}
use Rattle.repair_tool.proofs.closed_table.Goals as goal

pub returns : goal.returns
unfolding closed zeros
returns c = refl
