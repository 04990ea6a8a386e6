use Rattle.directory.proofs.Laws.{right-none, right-end, right-on}
use Rattle.directory.proofs.directory_right.Goals as goal

pub returns-in-None : goal.returns-in-None
returns-in-None c = search right-none

pub returns-in-End : goal.returns-in-End
returns-in-End c = search right-end

pub returns-in_default : goal.returns-in_default
returns-in_default c = search right-on
