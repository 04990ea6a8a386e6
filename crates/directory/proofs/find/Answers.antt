use Rattle.std.proofs.Common.{rules}
use Rattle.std.proofs.lemmas.Iterator.Search.{find_from_yields_List}
use Rattle.std.proofs.lemmas.Iterator.Consumers.{YieldsList-from_first}
use borrow.Author.Tests.{tests}
use Rattle.rules.specs.Bytes.{part}
use Rattle.rules.specs.Directory.{named, find}
use Rattle.directory.specs.Walks.{slots_left}
use Rattle.directory.proofs.Laws.{in-wrong, in-right}
use Rattle.directory.proofs.find.Goals as goal

pub returns-then-not-directory_right : goal.returns-then-not-directory_right
unfolding find
returns-then-not-directory_right c = in-wrong _ _ _ _ c.directory_right.ensures c.if-not-directory_right.true

pub returns : goal.returns
unfolding find
returns c =
    let wanted = named c.args.image.now (part c.args.table.now c.args.at 11) in
    in-right _ _ _ wanted c.directory_right.ensures c.find.result c.if-not-directory_right.false c.ok_or.ensures.value
    (find_from_yields_List wanted c.find.new.self _ c.find.result c.find.ensures.ran (YieldsList-from_first (λ k. k) slots_left _ c.slots.ensures.0) (λ k b q d. search (rules, tests)))
