-- Products of bytes fit; the shape from its numbers; a link that may be absent; data stored in a sector's own part of the image.
use mathlib.Core.Path.{◌≡◌, refl, ap, ◌∙◌}
use mathlib.Core.Bool.{Bool, true, false, not}
use mathlib.Core.List.{List, [], ◌∷◌}
use Prim.Native.Nat.{ℕ, ◌+◌, ◌-◌, ◌*◌, ◌/◌, ◌%◌, ◌≤◌, ◌<◌}
use native.Mathlib.Nat.{mul-le-mul, div-zero, mod-zero, div-le_self, mod-le}
use native.Mathlib.Omega.{arith}
use borrow.Rule.Slice.PartMut.{mid_of, put_mid}
use lib.ListN.{length, get_or, set, replicate}
use lib.Dec.{eqb, leb}
use borrow.Author.Tests.{le-leb, lt-leb, not-true, not-false}
use Rattle.rules.specs.Bytes.{within, part, over, two, zeros}
use Rattle.rules.specs.Stores.{store, stored}
use Rattle.rules.specs.Image.{within_limits, shape_right, address_of, track_of, sector_of, index, is_sector, is_data}
use Rattle.rules.specs.Transfer.{fresh, linked}
use Rattle.laws.specs.Bytes.{length_part}
use Rattle.laws.specs.Lent.{over-within}
use Rattle.disk.specs.Loaded.{is_shape, shape_of}
use Rattle.std.specs.Prelude.{Some, None}

pub product : (x y : ℕ) → x ≤ 256 → y ≤ 255 → x * y ≤ 65280
product x y h k = mul-le-mul h k

-- no sector on a track
pub address-none : (S k : ℕ) → S ≡ 0 → k + 1 ≡ address_of S k
unfolding address_of
address-none S k h = rw (h, div-zero k, mod-zero k) (omega arith)

-- how large its digits are
pub digits-few : (S k : ℕ) → (k / S ≤ k) × (k % S ≤ k)
digits-few S k = (div-le_self k S, mod-le k S)

-- the limits' tests in their order
pub no-track : (M S : ℕ) → M < 1 → false ≡ within_limits M S
unfolding within_limits within
no-track M S h = rw (lt-leb 1 M h) refl

module _ (M S : ℕ) (a : 1 ≤ M) where
  pub many-tracks : 79 < M → false ≡ within_limits M S
  unfolding within_limits within
  many-tracks h = rw (le-leb 1 M a, lt-leb M 79 h) refl

  module _ (b : M ≤ 79) where
    pub few-sectors : S < 5 → false ≡ within_limits M S
    unfolding within_limits within
    few-sectors h = rw (le-leb 1 M a, le-leb M 79 b, lt-leb 5 S h) refl

    pub by-sectors : 5 ≤ S → leb S 36 ≡ within_limits M S
    unfolding within_limits within
    by-sectors h = rw (le-leb 1 M a, le-leb M 79 b, le-leb 5 S h) refl

-- the shape's: the least length, the limits, the length
pub too_short : (n M S : ℕ) → n < 552 → false ≡ is_shape n M S
unfolding is_shape
too_short n M S h = rw (lt-leb 552 n h) refl

module _ (n M S : ℕ) (a : 552 ≤ n) {r : Bool} (e : r ≡ within_limits M S) where
  pub past-limits : not r ≡ true → false ≡ is_shape n M S
  unfolding is_shape
  past-limits h = rw (le-leb 552 n a, ← e, not-true r h) refl

  pub by_length : {k : ℕ} → not r ≡ false → k ≡ (M + 1) * S → eqb n (k * 256) ≡ is_shape n M S
  unfolding is_shape
  by_length h q = rw (le-leb 552 n a, ← e, not-false r h, q) refl

module _ (img : List ℕ) {r : Bool} {M S : ℕ} (e : r ≡ is_shape (length img) M S) (m : M ≡ get_or img 550 0) (s : S ≡ get_or img 551 0) where
  is_right : r ≡ shape_right img
  unfolding is_shape shape_right
  is_right = rw (e, m, s) refl

  pub shape-right : r ≡ true → Some (record { last = M; per = S }) ≡ shape_of img
  unfolding shape_of
  shape-right k = rw (← is_right, k, m, s) refl

  pub shape-wrong : r ≡ false → None ≡ shape_of img
  unfolding shape_of
  shape-wrong k = rw (← is_right, k) refl

-- an address by its two bytes, track and sector
module _ (M S a : ℕ) {bs : List ℕ} (e : bs ≡ track_of a ∷ sector_of a ∷ []) where
  pub index-is : {r : ℕ} → r ≡ get_or bs 0 0 * S + get_or bs 1 0 - 1 → r ≡ index S a
  unfolding index
  index-is h = h ∙ rw e refl

  pub past-tracks : M < get_or bs 0 0 → false ≡ is_sector M S a
  unfolding is_sector
  past-tracks h = rw (lt-leb (track_of a) M (rw e at h)) refl

  pub no-sector : get_or bs 0 0 ≤ M → get_or bs 1 0 < 1 → leb 1 (get_or bs 1 0) ≡ is_sector M S a
  unfolding is_sector within
  no-sector h k = rw (lt-leb 1 (get_or bs 1 0) k, le-leb (track_of a) M (rw e at h), lt-leb 1 (sector_of a) (rw e at k)) refl

  pub up-to-last : get_or bs 0 0 ≤ M → 1 ≤ get_or bs 1 0 → leb (get_or bs 1 0) S ≡ is_sector M S a
  unfolding is_sector within
  up-to-last h k = rw (le-leb (track_of a) M (rw e at h), le-leb 1 (sector_of a) (rw e at k), e) refl

  pub track-none : get_or bs 0 0 < 1 → false ≡ is_data M S a
  unfolding is_data within
  track-none h = rw (lt-leb 1 (track_of a) (rw e at h)) refl

  pub track-some : {r : Bool} → 1 ≤ get_or bs 0 0 → r ≡ is_sector M S a → r ≡ is_data M S a
  unfolding is_data is_sector within
  track-some h d = rw (le-leb 1 (track_of a) (rw e at h)) d

pub fresh-stored : (m d bs : List ℕ) (at size : ℕ) → bs ≡ size / 256 % 256 ∷ size % 256 ∷ [] → d ≡ over m at (set (set (replicate 256 0) 2 (get_or bs 0 0)) 3 (get_or bs 1 0))
    → d ≡ over m at (fresh size)
unfolding fresh zeros
fresh-stored m d bs at size e h = h ∙ rw e refl

module _ (img : List ℕ) (none : Bool) (k a : ℕ) where
  pub link-none : none ≡ true → img ≡ stored img (linked none k a)
  unfolding linked
  link-none h = rw h refl

  pub link-some : {d : List ℕ} → none ≡ false → d ≡ over img (256 * k) (two a) → d ≡ stored img (linked none k a)
  unfolding linked
  link-some h e = rw h (e ∙ ap (λ (n : ℕ). over img n (two a)) (omega arith))

-- the n bytes from i on of the sector whose 256 bytes begin at o
bytes-stored : (m d tab : List ℕ) (o i n from : ℕ) → o + 256 ≤ length m → i + n ≤ 256 → d ≡ over (mid_of o (o + 256 - o) m) i (part tab from n)
    → put_mid o (o + 256 - o) m d ≡ over m (o + i) (part tab from n)
bytes-stored m d tab o i n from h k e = over-within m d (part tab from n) o 256 i h (omega (arith, k, length_part tab from n)) e

-- its data
pub data-stored : (m d tab : List ℕ) (o from : ℕ) → o + 256 ≤ length m → d ≡ over (mid_of o (o + 256 - o) m) 4 (part tab from 252)
    → put_mid o (o + 256 - o) m d ≡ over m (o + 4) (part tab from 252)
data-stored m d tab o from h e = bytes-stored m d tab o 4 252 from h (omega arith) e

-- all of it
pub whole-stored : (m d tab : List ℕ) (o from : ℕ) → o + 256 ≤ length m → d ≡ over (mid_of o (o + 256 - o) m) 0 (part tab from 256)
    → put_mid o (o + 256 - o) m d ≡ over m o (part tab from 256)
whole-stored m d tab o from h e = bytes-stored m d tab o 0 256 from h (omega arith) e ∙ ap (λ (n : ℕ). over m n (part tab from 256)) (omega arith)

-- the same as a store
pub sector-stored : {d : List ℕ} (m tab : List ℕ) (k from : ℕ) → d ≡ over m (256 * k) (part tab from 256) → d ≡ stored m (store k 0 (part tab from 256) ∷ [])
sector-stored m tab k from e = e ∙ ap (λ (n : ℕ). over m n (part tab from 256)) (omega arith)
