use Rattle.files.specs.Parts.{open_write_new}
use Rattle.files.proofs.Laws.{else-slot, else-other, else-broken}
use Rattle.files.proofs.open_write_new.Goals as goal

pub returns-in-Ok : goal.returns-in-Ok
unfolding open_write_new
returns-in-Ok c = search else-slot

pub returns-in-Err-Missing : goal.returns-in-Err-Missing
unfolding open_write_new
returns-in-Err-Missing c = search else-other

pub returns-in-Err-Broken : goal.returns-in-Err-Broken
unfolding open_write_new
returns-in-Err-Broken c = search else-broken
