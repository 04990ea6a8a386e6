use mathlib.Core.Path.{refl}
use Rattle.repair.proofs.Laws.{files-first, files-none, files-next, files-end}
use borrow.Author.Rules.{rules}
use Rattle.repair.proofs.mend_files.Goals as goal

pub loop-init : goal.loop-init
loop-init c = (search files-first, refl, refl)

pub returns-in-Err : goal.returns-in-Err
returns-in-Err c = search files-end

pub loop-preserved : goal.loop-preserved
loop-preserved c = (search files-next, search rules, search rules)

pub returns : goal.returns
returns c = search files-none
