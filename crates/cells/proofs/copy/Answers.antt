use Rattle.cells.proofs.Laws.{copied_none, copied-rest, copied-part}
use Rattle.cells.proofs.copy.Goals as goal

pub returns-then-src-from : goal.returns-then-src-from
returns-then-src-from c = search copied_none

pub returns-then-src-from-2 : goal.returns-then-src-from-2
returns-then-src-from-2 c = search copied-rest

pub returns : goal.returns
returns c = search copied-part
