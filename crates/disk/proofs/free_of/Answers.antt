use Rattle.disk.specs.Loaded.{free_of}
use Rattle.disk.proofs.free_of.Goals as goal

pub returns : goal.returns
unfolding free_of
returns c = cc
