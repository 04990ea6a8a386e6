-- No second outcome fits the promise of a public function of this crate.
use Rattle.std.specs.Prelude.{Bool, List, [], ◌∷◌, ℕ, ◌+◌, ◌*◌}
use Rattle.rules.specs.Bytes.{part, over, six}
use Rattle.rules.specs.Stores.{store, stored}
use Rattle.rules.specs.Image.{within_limits, index, address_of, is_sector, is_data, link_of, info_sector, info_first}
use Rattle.rules.specs.Transfer.{fresh, linked}
use Rattle.laws.specs.Single.{Single, single}
use Rattle.disk.specs.Loaded.{shape_of, free_of}

pub sectors-single : (M S : ℕ) → Single ((M + 1) * S)
sectors-single M S = single ((M + 1) * S)

pub data-sectors-single : (M S : ℕ) → Single (M * S)
data-sectors-single M S = single (M * S)

pub within-limits-single : (M S : ℕ) → Single (within_limits M S)
within-limits-single M S = single (within_limits M S)

pub shape-of-single : (img : List ℕ) → Single (shape_of img)
shape-of-single img = single (shape_of img)

pub index-of-single : (S a : ℕ) → Single (index S a)
index-of-single S a = single (index S a)

pub address-of-single : (S k : ℕ) → Single (address_of S k)
address-of-single S k = single (address_of S k)

pub is-sector-single : (M S a : ℕ) → Single (is_sector M S a)
is-sector-single M S a = single (is_sector M S a)

pub is-data-single : (M S a : ℕ) → Single (is_data M S a)
is-data-single M S a = single (is_data M S a)

pub link-of-single : (img : List ℕ) (k : ℕ) → Single (link_of img k)
link-of-single img k = single (link_of img k)

pub link-single : (img : List ℕ) (none : Bool) (k a : ℕ) → Single (stored img (linked none k a))
link-single img none k a = single (stored img (linked none k a))

pub free-of-single : (img : List ℕ) → Single (free_of img)
free-of-single img = single (free_of img)

pub put-free-single : (img : List ℕ) (first last count : ℕ) → Single (over img (256 * info_sector + info_first) (six first last count))
put-free-single img first last count = single (over img (256 * info_sector + info_first) (six first last count))

pub load-sector-single : (tab : List ℕ) (at : ℕ) (img : List ℕ) (k : ℕ) → Single (over tab at (part img (256 * k) 256))
load-sector-single tab at img k = single (over tab at (part img (256 * k) 256))

pub store-data-single : (img : List ℕ) (k : ℕ) (tab : List ℕ) (from : ℕ) → Single (over img (256 * k + 4) (part tab from 252))
store-data-single img k tab from = single (over img (256 * k + 4) (part tab from 252))

pub store-sector-single : (img : List ℕ) (k : ℕ) (tab : List ℕ) (from : ℕ) → Single (stored img (store k 0 (part tab from 256) ∷ []))
store-sector-single img k tab from = single (stored img (store k 0 (part tab from 256) ∷ []))

pub fresh-sector-single : (m : List ℕ) (at size : ℕ) → Single (over m at (fresh size))
fresh-sector-single m at size = single (over m at (fresh size))
