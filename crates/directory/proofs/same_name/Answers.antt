use Rattle.std.proofs.Common.{◌∙◌, refl, rules, eqb, get_or, ◌+◌}
use Rattle.std.proofs.lemmas.Iterator.{YieldsList-from_range}
use Rattle.std.proofs.lemmas.Iterator.Search.{all_from_yields_List}
use borrow.Author.Tests.{tests}
use Rattle.directory.proofs.Laws.{same_bytes}
use Rattle.directory.proofs.same_name.Goals as goal

pub returns : goal.returns
returns c =
    all_from_yields_List (λ i. eqb (get_or c.args.image.now (c.args.slot + i) 0) (get_or c.args.table.now (c.args.at + i) 0)) _ _ _
    c.all.ensures.ran (YieldsList-from_range 0 11 11 refl refl) (λ i b q d. search (rules, tests))
    ∙ same_bytes _ _ c.args.slot c.args.at 11
