use Rattle.rules.specs.Files.{open_read}
use Rattle.files.specs.Parts.{open_read_at}
use Rattle.laws.specs.Settled.{unless-refused, unless-on, slot-on, slot-missing, slot-broken}
use Rattle.files.proofs.open_read.Goals as goal

pub returns-then-not-legal_name : goal.returns-then-not-legal_name
unfolding open_read open_read_at
returns-then-not-legal_name c = search unless-refused

pub returns-in-Ok : goal.returns-in-Ok
unfolding open_read open_read_at
returns-in-Ok c = search (unless-on, slot-on)

pub returns-in-Err-Missing : goal.returns-in-Err-Missing
unfolding open_read open_read_at
returns-in-Err-Missing c = search (unless-on, slot-missing)

pub returns-in-Err-Broken : goal.returns-in-Err-Broken
unfolding open_read open_read_at
returns-in-Err-Broken c = search (unless-on, slot-broken)
