use Rattle.raw.proofs.Laws.{slot-put}
use Rattle.raw.proofs.put_slot_at.Goals as goal

pub returns : goal.returns
returns c = search slot-put
