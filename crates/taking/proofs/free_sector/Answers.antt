use Rattle.taking.proofs.Laws.{sector-none, sector-bad, sector-free}
use Rattle.taking.proofs.free_sector.Goals as goal

pub returns-then-free-eq0 : goal.returns-then-free-eq0
returns-then-free-eq0 c = search sector-none

pub returns-then-not-is_data : goal.returns-then-not-is_data
returns-then-not-is_data c = search sector-bad

pub returns : goal.returns
returns c = search sector-free
