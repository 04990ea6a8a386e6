use Rattle.census.proofs.Laws.{end_short, end-twice, end-owned}
use Rattle.census.proofs.end.Goals as goal

pub returns-then-n-sectors : goal.returns-then-n-sectors
returns-then-n-sectors c = search end_short

pub returns-then-not-once : goal.returns-then-not-once
returns-then-not-once c = search end-twice

pub returns : goal.returns
returns c = search end-owned
