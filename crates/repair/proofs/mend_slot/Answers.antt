use Rattle.repair.proofs.Laws.{slot-done}
use Rattle.repair.proofs.mend_slot.Goals as goal

pub returns : goal.returns
returns c = search slot-done
