use Rattle.files.specs.Parts.{first_slot}
use Rattle.laws.specs.Settled.{unless-refused, unless-on}
use Rattle.files.proofs.first_slot.Goals as goal

pub returns-then-not-directory_right : goal.returns-then-not-directory_right
unfolding first_slot
returns-then-not-directory_right c = search unless-refused

pub returns : goal.returns
unfolding first_slot
returns c = search unless-on
