use borrow.Author.Rules.{rules}
use Rattle.entries.proofs.Laws.{entry-stored}
use Rattle.entries.proofs.Entry.bytes.Goals as goal

pub returns : goal.returns
returns c = search (rules, entry-stored)
