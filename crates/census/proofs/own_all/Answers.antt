use Rattle.census.proofs.Laws.{own-done}
use Rattle.census.proofs.own_all.Goals as goal

pub returns : goal.returns
returns c = search own-done
