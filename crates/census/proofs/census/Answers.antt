use Rattle.census.proofs.Laws.{census-wrong, census-shape, census-right}
use Rattle.census.proofs.census.Goals as goal

pub invariant_of-sized : goal.invariant_of-sized
invariant_of-sized c = record { limits = search census-shape }

pub returns-in-Some : goal.returns-in-Some
returns-in-Some c = search census-right

pub returns-in-None : goal.returns-in-None
returns-in-None c = search census-wrong
