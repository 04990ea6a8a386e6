use Rattle.census_laws.specs.Table.{code_of}
use borrow.Author.Rules.{rules}
use Rattle.slotwalk.proofs.code_of.Goals as goal

pub returns : goal.returns
unfolding code_of
returns c = search rules
