-- No second outcome fits the promise of the public function of this crate.
use Rattle.std.specs.Prelude.{List, ℕ, length}
use Rattle.rules.specs.Bytes.{zeros}
use Rattle.census_laws.specs.Marks.{marking, SingleMarked, single-marked}

pub are-new-single : (numbers marks : List ℕ) → SingleMarked (marking (zeros (length marks)) numbers)
are-new-single numbers marks = single-marked (marking (zeros (length marks)) numbers)
