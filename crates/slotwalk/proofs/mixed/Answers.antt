use Rattle.slotwalk.proofs.Laws.{mixed-is}
use Rattle.slotwalk.proofs.mixed.Goals as goal

pub returns : goal.returns
returns c = search mixed-is
