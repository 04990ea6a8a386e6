use Rattle.format.proofs.Laws.{sector-stored}
use Rattle.format.proofs.store_sector.Goals as goal

pub returns : goal.returns
returns c = search sector-stored
