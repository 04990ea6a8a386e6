use Rattle.rules.specs.Transfer.{take_puts}
use Rattle.taking.proofs.take_table.Goals as goal

pub returns : goal.returns
unfolding take_puts
returns c = cc
