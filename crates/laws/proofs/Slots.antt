-- Where a slot of the directory lies.
use Rattle.std.specs.Prelude.{◌≡◌, true, ℕ, ◌≤◌}
use mathlib.Core.List.{List}
use Rattle.rules.specs.Directory.{member, directory, slots}
use Rattle.laws.specs.Each.{each_member}
use Rattle.laws.specs.Slots.{InDirectory, IsSlot, Row, directory-in, rows_of, slot-made}

pub slot_is : (img : List ℕ) (M S : ℕ) → 5 ≤ S → (o : ℕ) → member o (slots img M S) ≡ true → IsSlot M S o
slot_is img M S s o h =
    slot-made M S o (each_member (Row (InDirectory M S)) (slots img M S) o (rows_of (InDirectory M S) (directory img M S) (directory-in img M S s)) h)
