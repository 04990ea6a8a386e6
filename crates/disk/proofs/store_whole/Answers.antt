use Rattle.disk.proofs.Laws.{whole-stored}
use Rattle.disk.proofs.store_whole.Goals as goal

pub returns : goal.returns
returns c = search whole-stored
