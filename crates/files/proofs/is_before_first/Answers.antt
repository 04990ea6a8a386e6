use Rattle.files.proofs.Laws.{no-place}
use Rattle.files.proofs.is_before_first.Goals as goal

pub returns : goal.returns
returns c = search no-place
