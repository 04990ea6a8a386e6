use Rattle.rules.specs.Transfer.{load_puts}
use Rattle.transfer.proofs.load_table.Goals as goal

pub returns : goal.returns
unfolding load_puts
returns c = cc
