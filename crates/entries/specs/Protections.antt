-- What a slot's attributes may forbid: the rules' test of each, and its number.
use Rattle.std.specs.Prelude.{Bool, ℕ}
use Rattle.rules.specs.Files.{write_protected, delete_protected, read_protected}
use Rattle.entries.specs.declared.Protection.{Protection}
use Rattle.entries.specs.declared.Protection.TheVariants.{Write, Delete, Read}

abbrev pub forbids : Protection → ℕ → Bool
forbids Write attributes = write_protected attributes
forbids Delete attributes = delete_protected attributes
forbids Read attributes = read_protected attributes

abbrev pub number_of : Protection → ℕ
number_of Write = 128
number_of Delete = 64
number_of Read = 32
