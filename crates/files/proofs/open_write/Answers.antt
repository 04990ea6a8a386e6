use Rattle.rules.specs.Files.{open_write}
use Rattle.files.specs.Parts.{open_write_new, open_write_at}
use Rattle.laws.specs.Settled.{unless-refused, unless-on, none-on, none-there, none-broken}
use Rattle.files.proofs.open_write.Goals as goal

pub returns-then-not-legal_name : goal.returns-then-not-legal_name
unfolding open_write open_write_at open_write_new
returns-then-not-legal_name c = search unless-refused

pub returns-in-Ok : goal.returns-in-Ok
unfolding open_write open_write_at open_write_new
returns-in-Ok c = search (unless-on, none-there)

pub returns-in-Err-Missing : goal.returns-in-Err-Missing
unfolding open_write open_write_at open_write_new
returns-in-Err-Missing c = search (unless-on, none-on)

pub returns-in-Err-Broken : goal.returns-in-Err-Broken
unfolding open_write open_write_at open_write_new
returns-in-Err-Broken c = search (unless-on, none-broken)
