use Rattle.repair.proofs.Laws.{mark-low, mark-data}
use Rattle.repair.proofs.set_mark.Goals as goal

pub returns-then-k-shape : goal.returns-then-k-shape
returns-then-k-shape c = search mark-low

pub returns : goal.returns
returns c = search mark-data
