-- No second outcome fits the promise of a public function of this crate.
use Rattle.std.specs.Prelude.{List, ℕ}
use Rattle.rules.specs.Text.{decimal, printed}
use Rattle.laws.specs.Single.{Single, single}

pub decimal-single : (n : ℕ) → Single (decimal n)
decimal-single n = single (decimal n)

pub print-single : (img : List ℕ) → Single (printed img)
print-single img = single (printed img)
