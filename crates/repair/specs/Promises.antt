-- No second outcome fits the promise of repair.
use Rattle.std.specs.Prelude.{List, ℕ}
use Rattle.rules.specs.Repair.{repair}
use Rattle.laws.specs.Single.{SingleMade, single-made}

pub repair-single : (img tab : List ℕ) → SingleMade (repair img tab)
repair-single img tab = single-made (repair img tab)
