-- How far the directory goes, as the struct that the code gives back.
use Rattle.std.specs.Prelude.{List, ℕ, length}
use Rattle.rules.specs.Directory.{directory, last_sector}
use Rattle.directory.specs.declared.Extent.{Extent}

unfoldable pub extent_of : List ℕ → ℕ → ℕ → Extent
extent_of img M S = record { end = last_sector img M S; sectors = length (directory img M S) }
