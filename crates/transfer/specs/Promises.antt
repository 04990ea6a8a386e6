-- No second outcome fits the promise of a public function of this crate.
use Rattle.std.specs.Prelude.{List, ℕ}
use Rattle.rules.specs.Outcome.{left, settled}
use Rattle.rules.specs.Transfer.{reading, writing, close}
use Rattle.laws.specs.Single.{SingleDone, single-done, SingleGiven, single-given}

pub read-single : (img tab : List ℕ) (M S f : ℕ) → SingleGiven (left img tab f (settled (reading img tab M S f)))
read-single img tab M S f = single-given (left img tab f (settled (reading img tab M S f)))

pub write-single : (img tab : List ℕ) (M S f b : ℕ) → SingleDone (left img tab f (settled (writing img tab M S f b)))
write-single img tab M S f b = single-done (left img tab f (settled (writing img tab M S f b)))

pub close-single : (img tab : List ℕ) (M S f : ℕ) → SingleDone (left img tab f (settled (close img tab M S f)))
close-single img tab M S f = single-done (left img tab f (settled (close img tab M S f)))
