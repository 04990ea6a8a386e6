use Rattle.rules.specs.Bytes.{word_at}
use Rattle.cells.proofs.get2.Goals as goal

pub returns : goal.returns
unfolding word_at
returns c = cc
