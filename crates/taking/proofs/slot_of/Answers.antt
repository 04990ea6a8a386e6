use Rattle.taking.proofs.Laws.{place-loaded}
use Rattle.taking.proofs.slot_of.Goals as goal

pub returns : goal.returns
returns c = search place-loaded
