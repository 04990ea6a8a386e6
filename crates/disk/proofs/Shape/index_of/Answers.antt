use Rattle.disk.proofs.Laws.{index-is}
use Rattle.disk.proofs.Shape.index_of.Goals as goal

pub returns : goal.returns
returns c = search index-is
