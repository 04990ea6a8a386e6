use Rattle.disk.proofs.Laws.{fresh-stored}
use Rattle.disk.proofs.fresh_sector.Goals as goal

pub returns : goal.returns
returns c = search fresh-stored
