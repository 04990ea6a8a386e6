use Rattle.disk.proofs.Laws.{shape-right, shape-wrong}
use Rattle.disk.proofs.shape_of.Goals as goal

pub returns-then-fits : goal.returns-then-fits
returns-then-fits c = search shape-right

pub returns-else-fits : goal.returns-else-fits
returns-else-fits c = search shape-wrong
