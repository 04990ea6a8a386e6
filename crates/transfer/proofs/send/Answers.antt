use Rattle.rules.specs.Transfer.{sent}
use Rattle.transfer.proofs.send.Goals as goal

pub returns : goal.returns
unfolding sent
returns c = cc
