use Rattle.taking.specs.Take.{block_of}
use Rattle.taking.proofs.block_of.Goals as goal

pub returns : goal.returns
unfolding block_of
returns c = cc
