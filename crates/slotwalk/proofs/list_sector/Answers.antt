use Rattle.census_laws.specs.Walks.{sector-passed, sector-listed}
use Rattle.slotwalk.proofs.list_sector.Goals as goal

pub returns-then-k-shape : goal.returns-then-k-shape
returns-then-k-shape c = search sector-passed

pub returns : goal.returns
returns c = search sector-listed
