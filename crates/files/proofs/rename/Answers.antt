use Rattle.rules.specs.Files.{rename}
use Rattle.files.specs.Parts.{renamed, rename_at}
use Rattle.laws.specs.Settled.{unless-refused, unless-on, slot-on, slot-missing, slot-broken}
use Rattle.files.proofs.rename.Goals as goal

pub returns-then-not-legal_name : goal.returns-then-not-legal_name
unfolding rename rename_at renamed
returns-then-not-legal_name c = search unless-refused

pub returns-then-not-legal_name-2 : goal.returns-then-not-legal_name-2
unfolding rename rename_at renamed
returns-then-not-legal_name-2 c = search (unless-on, unless-refused)

pub returns-in-Ok : goal.returns-in-Ok
unfolding rename rename_at renamed
returns-in-Ok c = search (unless-on, slot-on)

pub returns-in-Err-Missing : goal.returns-in-Err-Missing
unfolding rename rename_at renamed
returns-in-Err-Missing c = search (unless-on, slot-missing)

pub returns-in-Err-Broken : goal.returns-in-Err-Broken
unfolding rename rename_at renamed
returns-in-Err-Broken c = search (unless-on, slot-broken)
