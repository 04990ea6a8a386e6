use Rattle.files.specs.Parts.{slot_after}
use Rattle.laws.specs.Settled.{slot-on, slot-missing, slot-broken}
use Rattle.files.proofs.slot_after.Goals as goal

pub returns-in-Ok : goal.returns-in-Ok
unfolding slot_after
returns-in-Ok c = search slot-on

pub returns-in-Err-Missing : goal.returns-in-Err-Missing
unfolding slot_after
returns-in-Err-Missing c = search slot-missing

pub returns-in-Err-Broken : goal.returns-in-Err-Broken
unfolding slot_after
returns-in-Err-Broken c = search slot-broken
