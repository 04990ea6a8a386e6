use Rattle.files.specs.Parts.{slot_after, further_slot}
use Rattle.laws.specs.Settled.{slot-on, slot-none}
use Rattle.files.proofs.further_slot.Goals as goal

pub returns-in-Ok : goal.returns-in-Ok
unfolding further_slot slot_after
returns-in-Ok c = search slot-on

pub returns-in-Err : goal.returns-in-Err
unfolding further_slot
returns-in-Err c = search slot-none
