use Rattle.removal.proofs.Laws.{hung}
use Rattle.removal.proofs.hang.Goals as goal

pub returns : goal.returns
returns c = search hung
