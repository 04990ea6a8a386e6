use mathlib.Core.Path.{refl}
use Rattle.std.proofs.Common.{◌∙◌, rules}
use Rattle.std.proofs.lemmas.Iterator.Search.{any_from_yields_List}
use Rattle.std.proofs.lemmas.Iterator.Consumers.{YieldsList-from_first}
use borrow.Author.Tests.{tests}
use Rattle.rules.specs.Bytes.{part}
use Rattle.rules.specs.Directory.{named}
use Rattle.directory.specs.Walks.{slots_left}
use Rattle.slotwalk.proofs.Laws.{any_namesake, if-dead, if-live}
use Rattle.slotwalk.proofs.has_twin.Goals as goal

pub returns-then-is_live : goal.returns-then-is_live
returns-then-is_live c =
    let wanted = named c.args.image.now (part c.args.image.now c.args.this 11) in
    let found = any_from_yields_List wanted c.any.new.self _ c.any.result c.any.ensures.ran (YieldsList-from_first (λ k. k) slots_left _ refl) (λ k b q d. search (rules, tests)) ∙ any_namesake _ _ _ in
    search (if-live, found)

pub returns-else-is_live : goal.returns-else-is_live
returns-else-is_live c = c.if-is_live.false ∙ search if-dead
