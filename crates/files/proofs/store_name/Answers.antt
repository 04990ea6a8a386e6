use Rattle.files.proofs.Laws.{name-stored}
use Rattle.files.proofs.store_name.Goals as goal

pub returns : goal.returns
returns c = search name-stored
