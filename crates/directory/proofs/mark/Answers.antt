use Rattle.directory.proofs.Laws.{marked}
use Rattle.directory.proofs.mark.Goals as goal

pub returns : goal.returns
returns c = search marked
