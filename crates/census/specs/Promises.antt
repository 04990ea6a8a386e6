-- No second outcome fits the promise of a public function of this crate.
use Rattle.std.specs.Prelude.{List, ℕ}
use Rattle.rules.specs.Census.{census}
use Rattle.census_laws.specs.Accepted.{SingleSurveyed, single-surveyed}

pub census-single : (img xs ys : List ℕ) → SingleSurveyed (census img xs ys)
census-single img xs ys = single-surveyed (census img xs ys)
