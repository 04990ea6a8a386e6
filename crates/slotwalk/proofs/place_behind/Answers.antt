use Rattle.slotwalk.proofs.Laws.{behind-on, behind-round}
use Rattle.slotwalk.proofs.place_behind.Goals as goal

pub returns-then-behind-n : goal.returns-then-behind-n
returns-then-behind-n c = search behind-on

pub returns-else-behind-n : goal.returns-else-behind-n
returns-else-behind-n c = search behind-round
