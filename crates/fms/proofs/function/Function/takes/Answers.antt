use mathlib.Core.Logic.{inl, inr}
use Rattle.fms.proofs.Activities.{activities}
use Rattle.fms.proofs.function.Function.takes.Goals as goal

pub returns-in-Transfer : goal.returns-in-Transfer
returns-in-Transfer c = search activities

pub returns-then-is_file : goal.returns-then-is_file
returns-then-is_file c = search activities

pub returns-else-is_file : goal.returns-else-is_file
returns-else-is_file c = search activities

pub returns-in-Rewind : goal.returns-in-Rewind
returns-in-Rewind c = search activities

pub returns-in-NextSlot : goal.returns-in-NextSlot
returns-in-NextSlot c = search (activities, inl)

pub returns-in-PutSlot : goal.returns-in-PutSlot
returns-in-PutSlot c = search (activities, inr)

pub returns-in-OpenRead : goal.returns-in-OpenRead
returns-in-OpenRead c = search activities
