use Rattle.disk.proofs.Laws.{sector-stored}
use Rattle.disk.proofs.store_sector.Goals as goal

pub returns : goal.returns
returns c = search sector-stored
