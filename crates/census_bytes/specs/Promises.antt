-- No second outcome fits the promise of a public function of this crate.
use Rattle.std.specs.Prelude.{List, ℕ}
use Rattle.rules.specs.Bytes.{over}
use Rattle.rules.specs.Host.{as_bytes, host_census}
use Rattle.laws.specs.Single.{Single, single}
use Rattle.census_laws.specs.Accepted.{SingleSurveyed, single-surveyed}

pub spread-single : (m xs : List ℕ) → Single (over m 0 (as_bytes xs))
spread-single m xs = single (over m 0 (as_bytes xs))

pub census-bytes-single : (img xs ys : List ℕ) → SingleSurveyed (host_census img xs ys)
census-bytes-single img xs ys = single-surveyed (host_census img xs ys)
