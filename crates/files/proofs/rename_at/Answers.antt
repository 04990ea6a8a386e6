use Rattle.files.specs.Parts.{rename_at}
use Rattle.laws.specs.Settled.{when-refused, when-on, none-there, none-on, none-broken}
use Rattle.files.proofs.rename_at.Goals as goal

pub returns-then-in_use : goal.returns-then-in_use
unfolding rename_at
returns-then-in_use c = search when-refused

pub returns-then-is_protected : goal.returns-then-is_protected
unfolding rename_at
returns-then-is_protected c = search (when-on, when-refused)

pub returns-in-Ok : goal.returns-in-Ok
unfolding rename_at
returns-in-Ok c = search (when-on, none-there)

pub returns-in-Err-Missing : goal.returns-in-Err-Missing
unfolding rename_at
returns-in-Err-Missing c = search (when-on, none-on)

pub returns-in-Err-Broken : goal.returns-in-Err-Broken
unfolding rename_at
returns-in-Err-Broken c = search (when-on, none-broken)
