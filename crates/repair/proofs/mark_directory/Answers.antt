use mathlib.Core.Path.{refl}
use Rattle.repair.proofs.Laws.{marks-first, marks-none, marks-next}
use borrow.Author.Rules.{rules}
use Rattle.repair.proofs.mark_directory.Goals as goal

pub loop-k-init : goal.loop-k-init
loop-k-init c = (search (rules, marks-first), refl)

pub loop-k-preserved : goal.loop-k-preserved
loop-k-preserved c = (search (marks-next, c.in-Some.ensures), search rules)

pub returns : goal.returns
returns c = search (marks-none, c.in-None.ensures)
