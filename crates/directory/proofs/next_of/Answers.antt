use Rattle.directory.proofs.Laws.{next-by}
use Rattle.directory.proofs.next_of.Goals as goal

pub returns : goal.returns
returns c = search next-by
