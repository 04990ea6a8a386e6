-- No second outcome fits the promise of a public function of this crate.
use Rattle.std.specs.Prelude.{List, ℕ}
use Rattle.rules.specs.Outcome.{left, settled}
use Rattle.rules.specs.Files.{put_slot, write_sector}
use Rattle.laws.specs.Single.{SingleDone, single-done}

pub put-slot-single : (img tab : List ℕ) (M S f : ℕ) → SingleDone (left img tab f (settled (put_slot img tab M S f)))
put-slot-single img tab M S f = single-done (left img tab f (settled (put_slot img tab M S f)))

pub write-sector-single : (img tab : List ℕ) (M S f : ℕ) → SingleDone (left img tab f (settled (write_sector img tab M S f)))
write-sector-single img tab M S f = single-done (left img tab f (settled (write_sector img tab M S f)))
