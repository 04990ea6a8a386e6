use Rattle.fms.proofs.Dispatch.{sends, gets}
use Rattle.fms.proofs.transfer_byte.Goals as goal

pub returns-then-get_in : goal.returns-then-get_in
returns-then-get_in c = search gets

pub returns : goal.returns
returns c = search sends
