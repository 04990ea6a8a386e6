use Rattle.entries.proofs.Laws.{attribute-read}
use Rattle.entries.proofs.is_protected.Goals as goal

pub returns : goal.returns
returns c = search attribute-read
