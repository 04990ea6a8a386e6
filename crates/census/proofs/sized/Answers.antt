use Rattle.census_laws.specs.Whole.{sized-first, sized-second}
use Rattle.census.proofs.Laws.{sized-ok, sized-refused}
use Rattle.census.proofs.sized.Goals as goal

pub returns-then-sectors-n : goal.returns-then-sectors-n
returns-then-sectors-n c = search sized-first

pub returns-then-owners-n : goal.returns-then-owners-n
returns-then-owners-n c = search sized-second

pub returns-in-Ok : goal.returns-in-Ok
returns-in-Ok c = search sized-ok

pub returns-in-Err : goal.returns-in-Err
returns-in-Err c = search sized-refused
