use Rattle.census_laws.specs.Whole.{tried-directory, tried-twins, tried-chains}
use borrow.Author.Rules.{rules}
use Rattle.census.proofs.tried.Goals as goal

pub returns-then-not-right : goal.returns-then-not-right
returns-then-not-right c = search tried-directory

pub returns-then-twins : goal.returns-then-twins
returns-then-twins c = search (tried-twins, rules)

pub returns : goal.returns
returns c = search tried-chains
