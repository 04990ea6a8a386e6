use Rattle.std.proofs.Common.{◌∙◌, rules, eqb}
use Rattle.std.proofs.lemmas.Iterator.Search.{any_from_yields_List}
use Rattle.std.proofs.lemmas.Iterator.Consumers.{YieldsList-from_first}
use borrow.Author.Tests.{tests}
use Rattle.directory.specs.Walks.{sectors_left}
use Rattle.directory.proofs.Laws.{member_any}
use Rattle.directory.proofs.is_member.Goals as goal

pub returns : goal.returns
returns c =
    any_from_yields_List (λ k. eqb k c.args.x) c.any.new.self _ c.any.result c.any.ensures.ran (YieldsList-from_first (λ k. k) sectors_left _ c.sectors.ensures.0) (λ k b q d. search (rules, tests))
    ∙ member_any c.args.x _
