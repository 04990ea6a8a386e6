use Rattle.repair.proofs.Laws.{free-mended}
use Rattle.repair.proofs.mend_free.Goals as goal

pub returns : goal.returns
returns c = search free-mended
