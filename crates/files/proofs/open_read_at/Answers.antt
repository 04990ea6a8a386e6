use Rattle.files.specs.Parts.{open_read_at}
use Rattle.laws.specs.Settled.{when-refused, when-on}
use Rattle.files.proofs.Laws.{read_opened}
use Rattle.files.proofs.open_read_at.Goals as goal

pub returns-then-is_protected : goal.returns-then-is_protected
unfolding open_read_at
returns-then-is_protected c = search when-refused

pub returns-then-in_use : goal.returns-then-in_use
unfolding open_read_at
returns-then-in_use c = search (when-on, when-refused)

pub returns : goal.returns
unfolding open_read_at
returns c = search read_opened
