use Rattle.rules.specs.Files.{read_sector}
use Rattle.laws.specs.Settled.{sector-none}
use Rattle.files.proofs.Laws.{sector-read}
use Rattle.files.proofs.read_sector.Goals as goal

pub returns-then-not-is_sector : goal.returns-then-not-is_sector
unfolding read_sector
returns-then-not-is_sector c = search sector-none

pub returns : goal.returns
unfolding read_sector
returns c = search sector-read
