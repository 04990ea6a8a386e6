-- No second outcome fits the promise of a public function of this crate.
use Rattle.std.specs.Prelude.{List, ℕ}
use Rattle.rules.specs.Image.{data_number}
use Rattle.laws.specs.Single.{Single, single}
use Rattle.census_laws.specs.Walks.{chain_at, SingleLaid, single-laid}

pub number-single : (S k : ℕ) → Single (data_number S k)
number-single S k = single (data_number S k)

pub chain-at-single : (img : List ℕ) (M S slot : ℕ) (out : List ℕ) (at : ℕ) → SingleLaid (chain_at img M S slot out at)
chain-at-single img M S slot out at = single-laid (chain_at img M S slot out at)
