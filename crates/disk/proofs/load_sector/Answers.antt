use Rattle.laws.specs.Lent.{over-part}
use Rattle.disk.proofs.load_sector.Goals as goal

pub returns : goal.returns
returns c = search over-part
