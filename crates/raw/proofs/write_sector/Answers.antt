use Rattle.rules.specs.Files.{write_sector}
use Rattle.laws.specs.Settled.{sector-none}
use Rattle.raw.proofs.Laws.{sector-written}
use Rattle.raw.proofs.write_sector.Goals as goal

pub returns-then-not-is_sector : goal.returns-then-not-is_sector
unfolding write_sector
returns-then-not-is_sector c = search sector-none

pub returns : goal.returns
unfolding write_sector
returns c = search sector-written
