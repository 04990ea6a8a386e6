use mathlib.Core.Path.{refl}
use Rattle.repair.proofs.Laws.{walk-first, walk-done, walk-cut, walk-on}
use borrow.Author.Rules.{rules}
use Rattle.repair.proofs.keep.Goals as goal

pub loop-count-init : goal.loop-count-init
loop-count-init c = (search walk-first, refl)

pub returns-then-not-is_open : goal.returns-then-not-is_open
returns-then-not-is_open c = search walk-cut

pub loop-count-preserved : goal.loop-count-preserved
loop-count-preserved c = (search walk-on, search rules)

pub returns : goal.returns
returns c = search walk-done
