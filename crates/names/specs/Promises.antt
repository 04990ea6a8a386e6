-- No second outcome fits the promise of the public function of this crate.
use Rattle.std.specs.Prelude.{List, ℕ}
use Rattle.rules.specs.Names.{legal}
use Rattle.laws.specs.Single.{Single, single}

pub legal-name-single : (tab : List ℕ) (at : ℕ) → Single (legal tab at)
legal-name-single tab at = single (legal tab at)
