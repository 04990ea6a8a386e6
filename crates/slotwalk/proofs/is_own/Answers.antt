use Rattle.census_laws.specs.Table.{slot_of}
use borrow.Author.Rules.{rules}
use Rattle.slotwalk.proofs.is_own.Goals as goal

pub returns : goal.returns
unfolding slot_of
returns c = search rules
