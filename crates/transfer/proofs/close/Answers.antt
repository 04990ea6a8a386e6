use Rattle.transfer.proofs.Laws.{closes-writing, closes-other}
use Rattle.transfer.proofs.close.Goals as goal

pub returns-then-get : goal.returns-then-get
returns-then-get c = search closes-writing

pub returns : goal.returns
returns c = search closes-other
