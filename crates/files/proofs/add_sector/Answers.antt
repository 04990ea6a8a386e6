use Rattle.files.proofs.Laws.{sector-added}
use Rattle.files.proofs.add_sector.Goals as goal

pub returns : goal.returns
returns c = search sector-added
