use borrow.Author.Rules.{rules}
use Rattle.entries.proofs.bytes_at.Goals as goal

pub returns : goal.returns
returns g c = search rules
