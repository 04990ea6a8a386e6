use Rattle.disk.proofs.Laws.{data-stored}
use Rattle.disk.proofs.store_data.Goals as goal

pub returns : goal.returns
returns c = search data-stored
