use mathlib.Core.Path.{sym, ◌∙◌}
use Rattle.repair.proofs.Laws.{tried-wrong, tried-twins, tried-mended}
use borrow.Author.Rules.{rules}
use Rattle.repair.proofs.tried.Goals as goal

pub returns-then-not-directory_right : goal.returns-then-not-directory_right
returns-then-not-directory_right c = search tried-wrong

pub returns-then-has_twins : goal.returns-then-has_twins
returns-then-has_twins c = search tried-twins

pub mend-requires : goal.mend-requires
mend-requires c = (sym c.directory_right.ensures ∙ c.if-not-directory_right.false, search rules)

pub returns : goal.returns
returns c = search tried-mended
