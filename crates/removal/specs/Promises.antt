-- No second outcome fits the promise of the public function of this crate.
use Rattle.std.specs.Prelude.{List, ℕ}
use Rattle.rules.specs.Outcome.{settled, left}
use Rattle.rules.specs.Files.{remove}
use Rattle.laws.specs.Single.{SingleDone, single-done}

pub remove-single : (img tab : List ℕ) (M S f slot : ℕ) → SingleDone (left img tab f (settled (remove img M S slot)))
remove-single img tab M S f slot = single-done (left img tab f (settled (remove img M S slot)))
