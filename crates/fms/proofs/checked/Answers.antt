use Rattle.fms.proofs.Layers.{handed_on, not-served, other-drive, found, taken, not-taken}
use Rattle.fms.proofs.checked.Goals as goal

pub returns-in_err-function : goal.returns-in_err-function
returns-in_err-function c = handed_on c.args.table.now c.args.f _ c.in_err-function.field-0.0 c.from_residual.ensures.1 (search (not-served, c.in_err-function.was))

pub returns-then-get_in-ne0 : goal.returns-then-get_in-ne0
returns-then-get_in-ne0 c = search (other-drive, c.in_ok-function.was)

pub returns-then-not-takes : goal.returns-then-not-takes
returns-then-not-takes c = search (not-taken, c.in_ok-function.was)

pub returns : goal.returns
returns c = search (found, taken, c.in_ok-function.was)
