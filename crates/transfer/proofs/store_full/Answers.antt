use Rattle.transfer.proofs.Laws.{data-full}
use Rattle.transfer.proofs.store_full.Goals as goal

pub returns : goal.returns
returns c = search data-full
