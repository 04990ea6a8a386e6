use Rattle.disk.proofs.Laws.{past-tracks, no-sector, up-to-last}
use Rattle.disk.proofs.Shape.is_sector.Goals as goal

pub returns-then-track-self : goal.returns-then-track-self
returns-then-track-self c = search past-tracks

pub returns-then-sector-ge1 : goal.returns-then-sector-ge1
returns-then-sector-ge1 c = search up-to-last

pub returns-else-sector-ge1 : goal.returns-else-sector-ge1
returns-else-sector-ge1 c = search no-sector
