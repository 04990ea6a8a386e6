use Rattle.blocks.proofs.Laws.{offsets}
use Rattle.blocks.proofs.is_presettable.Goals as goal

pub returns-in-3-to-27 : goal.returns-in-3-to-27
returns-in-3-to-27 c = search offsets

pub returns-in-3-to-27-2 : goal.returns-in-3-to-27-2
returns-in-3-to-27-2 c = search offsets

pub returns-in-3-to-27-3 : goal.returns-in-3-to-27-3
returns-in-3-to-27-3 c = search offsets

pub returns-in_default : goal.returns-in_default
returns-in_default c = search offsets

pub returns-in_default-2 : goal.returns-in_default-2
returns-in_default-2 c = search offsets

pub returns-in_default-3 : goal.returns-in_default-3
returns-in_default-3 c = search offsets

pub returns-in_default-4 : goal.returns-in_default-4
returns-in_default-4 c = search offsets
