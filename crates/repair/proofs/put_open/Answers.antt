use native.Mathlib.Omega.{arith}
use Rattle.repair.proofs.Laws.{front-held, front-open, front-inside, front_fits}
use borrow.Author.Rules.{rules}
use Rattle.repair.proofs.put_open.Goals as goal

pub returns-then-entry-ne0 : goal.returns-then-entry-ne0
returns-then-entry-ne0 c = search front-held

pub overflow_add-shape : goal.overflow_add-shape
overflow_add-shape c = search (front_fits, arith)

pub put_before-requires : goal.put_before-requires
put_before-requires c = search (front-inside, rules)

pub returns : goal.returns
returns c = search front-open
