use Rattle.rules.specs.Files.{put_slot}
use Rattle.laws.specs.Settled.{slot-on}
use Rattle.raw.specs.Parts.{put_slot_at}
use Rattle.raw.proofs.Laws.{put_none}
use Rattle.raw.proofs.put_slot.Goals as goal

pub returns-in-Ok : goal.returns-in-Ok
unfolding put_slot put_slot_at
returns-in-Ok c = search slot-on

-- whatever it is that makes the place no slot's,
-- one law tells what is left
pub returns-in-Err : goal.returns-in-Err
returns-in-Err c = search put_none
