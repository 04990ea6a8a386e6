-- No second outcome fits the promise of format.
use Rattle.std.specs.Prelude.{List, ℕ}
use Rattle.rules.specs.Format.{format}
use Rattle.laws.specs.Single.{SingleMade, single-made}

pub format-single : (img : List ℕ) (M S : ℕ) (label : List ℕ) (volume month day year : ℕ) → SingleMade (format img M S label volume month day year)
format-single img M S label volume month day year = single-made (format img M S label volume month day year)
