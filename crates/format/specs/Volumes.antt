-- What the rules say of a label, a volume number and a date, said of a volume.
use Rattle.std.specs.Prelude.{List, ℕ}
use Rattle.format.specs.declared.Volume.{Volume}

abbrev pub of_volume : {A : Type 0} → (List ℕ → ℕ → ℕ → ℕ → ℕ → A) → Volume → A
of_volume rule v = rule v.label.now v.number v.month v.day v.year
