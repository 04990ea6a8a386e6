-- No second outcome fits the promise of a public function of this crate.
use Rattle.std.specs.Prelude.{List, ℕ, ◌+◌, length, get_or, replicate}
use Rattle.rules.specs.Bytes.{byte_at, word_at, part, over, one, two, six, zeros}
use Rattle.laws.specs.Single.{Single, single}

-- of values of any type
module _ {A : Type 0} (m : List A) where
  pub entry-single : (at : ℕ) (none : A) → Single (get_or m at none)
  entry-single at none = single (get_or m at none)

  pub put-single : (at : ℕ) (v : A) → Single (over m at (one v))
  put-single at v = single (over m at (one v))

  pub place-single : (at i : ℕ) (v : A) → Single (over m (at + i) (one v))
  place-single at i v = single (over m (at + i) (one v))

  pub fill-single : (v : A) → Single (replicate (length m) v)
  fill-single v = single (replicate (length m) v)

  pub run-single : (at n : ℕ) (v : A) → Single (over m at (replicate n v))
  run-single at n v = single (over m at (replicate n v))

  pub store-single : (at : ℕ) (src : List A) → Single (over m at src)
  store-single at src = single (over m at src)

-- of bytes
pub get-single : (m : List ℕ) (at : ℕ) → Single (byte_at m at)
get-single m at = single (byte_at m at)

pub get-in-single : (m : List ℕ) (at i : ℕ) → Single (byte_at m (at + i))
get-in-single m at i = single (byte_at m (at + i))

pub get2-single : (m : List ℕ) (at : ℕ) → Single (word_at m at)
get2-single m at = single (word_at m at)

pub copy-single : (m : List ℕ) (at : ℕ) (src : List ℕ) (from n : ℕ) → Single (over m at (part src from n))
copy-single m at src from n = single (over m at (part src from n))

pub put2-single : (m : List ℕ) (at v : ℕ) → Single (over m at (two v))
put2-single m at v = single (over m at (two v))

pub put6-single : (m : List ℕ) (at x y z : ℕ) → Single (over m at (six x y z))
put6-single m at x y z = single (over m at (six x y z))

pub clear-single : (m : List ℕ) (at n : ℕ) → Single (over m at (zeros n))
clear-single m at n = single (over m at (zeros n))
