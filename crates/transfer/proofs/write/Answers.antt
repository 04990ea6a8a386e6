use Rattle.transfer.proofs.Laws.{write-takes, write-fills, write-on}
use Rattle.transfer.proofs.write.Goals as goal

pub returns-then-index-eq0 : goal.returns-then-index-eq0
returns-then-index-eq0 c = search write-takes

pub returns-then-index : goal.returns-then-index
returns-then-index c = search write-fills

pub returns : goal.returns
returns c = search write-on
