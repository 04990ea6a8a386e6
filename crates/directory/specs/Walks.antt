-- What an iterator over the directory has left.
use Rattle.std.specs.Prelude.{List, [], ℕ, ◌+◌, ◌-◌, ◌*◌, ◌/◌, ◌%◌, eqb}
use Rattle.rules.specs.Bytes.{pick}
use Rattle.rules.specs.Directory.{sectors_from}
use Rattle.laws.specs.Visits.{visits}
use Rattle.directory.specs.declared.SectorWalk.{SectorWalk}
use Rattle.directory.specs.declared.SlotWalk.{SlotWalk}

abbrev pub sectors_left : SectorWalk → List ℕ
sectors_left s = sectors_from s.image.now s.shape.last s.shape.per s.left s.here

-- how many slots a sector has from a slot on
abbrev pub room : ℕ → ℕ
room o = (255 - o % 256) / 24 + 1

-- from the slot o on to the end of its sector, and of n sectors behind it at most; 0 is no slot
abbrev pub slots_from : List ℕ → ℕ → ℕ → ℕ → ℕ → List ℕ
slots_from img M S n o = pick (eqb o 0) [] (visits img M S (room o + 10 * n) o)

abbrev pub slots_left : SlotWalk → List ℕ
slots_left s = slots_from s.image.now s.shape.last s.shape.per s.left s.here
