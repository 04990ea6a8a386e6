use Rattle.rules.specs.Files.{delete}
use Rattle.files.specs.Parts.{delete_at}
use Rattle.laws.specs.Settled.{unless-refused, unless-on, slot-on, slot-missing, slot-broken}
use Rattle.files.proofs.delete.Goals as goal

pub returns-then-not-legal_name : goal.returns-then-not-legal_name
unfolding delete delete_at
returns-then-not-legal_name c = search unless-refused

pub returns-in-Ok : goal.returns-in-Ok
unfolding delete delete_at
returns-in-Ok c = search (unless-on, slot-on)

pub returns-in-Err-Missing : goal.returns-in-Err-Missing
unfolding delete delete_at
returns-in-Err-Missing c = search (unless-on, slot-missing)

pub returns-in-Err-Broken : goal.returns-in-Err-Broken
unfolding delete delete_at
returns-in-Err-Broken c = search (unless-on, slot-broken)
