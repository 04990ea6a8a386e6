use Rattle.removal.proofs.Laws.{marked-shown}
use Rattle.removal.proofs.show_marked.Goals as goal

pub returns : goal.returns
returns c = search marked-shown
