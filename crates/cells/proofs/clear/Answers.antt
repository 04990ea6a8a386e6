use Rattle.rules.specs.Bytes.{zeros}
use Rattle.cells.proofs.clear.Goals as goal

pub returns : goal.returns
unfolding zeros
returns c = c.run.ensures
