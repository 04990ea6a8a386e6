use Rattle.transfer.proofs.Laws.{read-load, read-on}
use Rattle.transfer.proofs.read.Goals as goal

pub returns-then-i-eq0 : goal.returns-then-i-eq0
returns-then-i-eq0 c = search read-load

pub returns : goal.returns
returns c = search read-on
