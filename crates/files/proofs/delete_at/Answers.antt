use Rattle.files.specs.Parts.{delete_at}
use Rattle.laws.specs.Settled.{when-refused, when-on}
use Rattle.files.proofs.delete_at.Goals as goal

pub returns-then-open : goal.returns-then-open
unfolding delete_at
returns-then-open c = search when-refused

pub returns-then-is_protected : goal.returns-then-is_protected
unfolding delete_at
returns-then-is_protected c = search (when-on, when-refused)

pub returns-then-is_protected-2 : goal.returns-then-is_protected-2
unfolding delete_at
returns-then-is_protected-2 c = search (when-on, when-refused)

pub returns : goal.returns
unfolding delete_at
returns c = search when-on
