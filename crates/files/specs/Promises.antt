-- No second outcome fits the promise of a public function of this crate.
use Rattle.std.specs.Prelude.{List, [], ℕ}
use Rattle.rules.specs.Outcome.{Outcome, settled, left}
use Rattle.rules.specs.Files.{open_read, open_write, rewind, open_directory, next_slot, read_sector, delete, rename}
use Rattle.laws.specs.Single.{SingleDone, single-done}

-- of any function's rule
one-outcome : (img tab : List ℕ) (f : ℕ) (o : Outcome) → SingleDone (left img tab f (settled o))
one-outcome img tab f o = single-done (left img tab f (settled o))

pub open-read-single : (img tab : List ℕ) (M S f : ℕ) → SingleDone (left img tab f (settled (open_read img tab M S f)))
open-read-single img tab M S f = one-outcome img tab f (open_read img tab M S f)

pub open-write-single : (img tab : List ℕ) (M S f : ℕ) → SingleDone (left img tab f (settled (open_write img tab M S f)))
open-write-single img tab M S f = one-outcome img tab f (open_write img tab M S f)

pub rewind-single : (tab : List ℕ) (f : ℕ) → SingleDone (left [] tab f (settled rewind))
rewind-single tab f = one-outcome [] tab f rewind

pub open-directory-single : (tab : List ℕ) (f : ℕ) → SingleDone (left [] tab f (settled open_directory))
open-directory-single tab f = one-outcome [] tab f open_directory

pub next-slot-single : (img tab : List ℕ) (M S f : ℕ) → SingleDone (left img tab f (settled (next_slot img tab M S f)))
next-slot-single img tab M S f = one-outcome img tab f (next_slot img tab M S f)

pub read-sector-single : (img tab : List ℕ) (M S f : ℕ) → SingleDone (left img tab f (settled (read_sector img tab M S f)))
read-sector-single img tab M S f = one-outcome img tab f (read_sector img tab M S f)

pub delete-single : (img tab : List ℕ) (M S f : ℕ) → SingleDone (left img tab f (settled (delete img tab M S f)))
delete-single img tab M S f = one-outcome img tab f (delete img tab M S f)

pub rename-single : (img tab : List ℕ) (M S f : ℕ) → SingleDone (left img tab f (settled (rename img tab M S f)))
rename-single img tab M S f = one-outcome img tab f (rename img tab M S f)
