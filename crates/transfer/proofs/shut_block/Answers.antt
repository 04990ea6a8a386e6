use Rattle.rules.specs.Transfer.{shut}
use Rattle.transfer.proofs.shut_block.Goals as goal

pub returns : goal.returns
unfolding shut
returns c = cc
