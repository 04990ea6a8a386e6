use borrow.Author.Rules.{rules}
use Rattle.transfer.proofs.next_byte.Goals as goal

pub returns : goal.returns
returns c = (search rules, cc)
