use Rattle.std.proofs.Common.{rules}
use native.Mathlib.Omega.{arith}
use Rattle.census_laws.specs.Walks.{files}
use Rattle.slotwalk.proofs.Laws.{files-wrong, files-next, files-place, files-fit}
use Rattle.slotwalk.proofs.list_files.Goals as goal

pub overflow_add-n : goal.overflow_add-n
overflow_add-n c = search (files-fit, c.in_ok-n.was, c.in-Some.ensures.steps, arith)

pub returns-in_err-n : goal.returns-in_err-n
returns-in_err-n c = rw c.from_residual.ensures (search (files-wrong, c.in_err-n.was, c.in-Some.ensures.steps))

pub loop-slot-preserved : goal.loop-slot-preserved
loop-slot-preserved c = (tt, tt, search (files-next, c.in_ok-n.was, c.in-Some.ensures.steps), search (files-place, c.in_ok-n.was, c.in-Some.ensures.steps, arith))

pub returns : goal.returns
unfolding files
returns c = search rules
