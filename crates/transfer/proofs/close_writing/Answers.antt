use Rattle.transfer.proofs.Laws.{closes-empty, closes-full, closes-partial}
use Rattle.transfer.proofs.close_writing.Goals as goal

pub returns-then-a-eq0 : goal.returns-then-a-eq0
returns-then-a-eq0 c = search closes-empty

pub returns-then-get-ne0 : goal.returns-then-get-ne0
returns-then-get-ne0 c = search closes-partial

pub returns : goal.returns
returns c = search closes-full
