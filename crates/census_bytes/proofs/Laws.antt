-- Laws of numbers as bytes, and of the census whose outputs are these.
use mathlib.Core.Path.{◌≡◌, refl, sym, ap, ap₂, ◌∙◌}
use mathlib.Core.Bool.{Bool, true, false}
use mathlib.Core.List.{List, [], ◌∷◌, ◌++◌}
use Prim.Native.Nat.{ℕ, zero, suc, ◌+◌, ◌*◌, ◌≤◌, ◌<◌}
use native.Mathlib.Numerals.{add-one}
use native.Mathlib.Omega.{arith}
use lib.ListN.{length, get_or, take, replicate}
use lib.Seq.{take-suc, take_all, length-take-le}
use lib.Dec.{eqb}
use borrow.Author.Tests.{eq-eqb, ne_eqb}
use Rattle.rules.specs.Bytes.{pick, over, two}
use Rattle.rules.specs.Image.{shape_right, last_track, per_track}
use Rattle.rules.specs.Census.{Survey, survey, census, concluded, fault, listed, owners}
use Rattle.rules.specs.Host.{as_bytes, host_concluded, host_census}
use Rattle.laws.specs.Addresses.{shape_is, data-few}
use Rattle.disk.specs.declared.Shape.{Shape}
use Rattle.std.specs.Prelude.{Option, None}
use Rattle.disk.specs.Loaded.{shape_of}
use Rattle.disk.specs.Shapes.{Shaping, none-is}
use Rattle.laws.specs.Bytes.{over-append, over_none}
use Rattle.laws.specs.Lent.{over-exact}
use Rattle.laws.specs.Surveys.{length-bytes}

-- ---- numbers as bytes

bytes-snoc : (xs : List ℕ) (v : ℕ) → as_bytes (xs ++ v ∷ []) ≡ as_bytes xs ++ two v
unfolding as_bytes two
bytes-snoc [] v = refl
bytes-snoc (x ∷ xs) v = ap (λ (l : List ℕ). two x ++ l) (bytes-snoc xs v)

-- the loop: the list after i numbers
pub spread_none : (m xs : List ℕ) → m ≡ over m 0 (as_bytes (take 0 xs))
unfolding as_bytes
spread_none m xs = over_none m 0 []

pub spread-more : (m d e xs : List ℕ) (i v : ℕ) → d ≡ over m 0 (as_bytes (take i xs)) → i < length xs → v ≡ get_or xs i 0 → e ≡ over d (2 * i) (two v)
    → e ≡ over m 0 (as_bytes (take (i + 1) xs))
spread-more m d e xs i v h k w g =
    let A : List ℕ = as_bytes (take i xs) in
    let t : take (i + 1) xs ≡ take i xs ++ v ∷ [] = rw add-one (take-suc xs i 0 k ∙ ap (λ (x : ℕ). take i xs ++ x ∷ []) (sym w)) in
    let n : 0 + length A ≡ 2 * i = omega (arith, length-bytes (take i xs), length-take-le i xs (omega arith)) in
    g
    ∙ ap (λ (l : List ℕ). over l (2 * i) (two v)) h
    ∙ sym (over-append m 0 A (two v) ∙ ap (λ (j : ℕ). over (over m 0 A) j (two v)) n)
    ∙ ap (over m 0) (sym (bytes-snoc (take i xs) v) ∙ ap as_bytes (sym t))

pub spread-all : (m d xs : List ℕ) (i : ℕ) → d ≡ over m 0 (as_bytes (take i xs)) → length xs ≤ i → d ≡ over m 0 (as_bytes xs)
spread-all m d xs i h k = h ∙ ap (λ (l : List ℕ). over m 0 (as_bytes l)) (take_all i xs k)

bytes-full : (n : ℕ) → as_bytes (replicate n 65535) ≡ replicate (2 * n) 255
unfolding as_bytes two
bytes-full zero = refl
bytes-full (suc n) =
    let e : suc (suc (2 * n)) ≡ 2 * suc n = omega arith in
    ap (λ (l : List ℕ). 255 ∷ 255 ∷ l) (bytes-full n) ∙ ap (λ (k : ℕ). replicate {A = ℕ} k 255) e

-- ---- the census

-- what is concluded from a fault, as bytes
bytes_of : Survey → Survey
bytes_of (survey e us vs) = survey e (as_bytes us) (as_bytes vs)

concluded-bytes : (img : List ℕ) (M S e : ℕ) → bytes_of (concluded img M S e) ≡ host_concluded img M S e
unfolding concluded host_concluded bytes_of
concluded-bytes img M S e = go (eqb e 0)
  where
    go : (b : Bool) → bytes_of (pick b (survey 0 (listed img M S) (owners img M S)) (survey e (replicate (M * S) 65535) (replicate (M * S) 65535)))
        ≡ pick b (survey 0 (as_bytes (listed img M S)) (as_bytes (owners img M S))) (survey e (replicate (2 * (M * S)) 255) (replicate (2 * (M * S)) 255))
    go true = refl
    go false = ap₂ (survey e) (bytes-full (M * S)) (bytes-full (M * S))

-- n data sectors
module _ (img xs ys : List ℕ) (M S : ℕ) (p : Shaping img M S) {n : ℕ} (q : n ≡ M * S) where
  pub all_sectors : n ≡ last_track img * per_track img
  all_sectors = q ∙ ap₂ (λ (a b : ℕ). a * b) p.1 p.2

  wide : 2 * n ≡ 2 * (last_track img * per_track img)
  wide = ap (λ (j : ℕ). 2 * j) all_sectors

  pub host-first : (length xs ≡ 2 * n → ⊥) → survey 40 xs ys ≡ host_census img xs ys
  unfolding host_census
  host-first h = rw (p.0, ne_eqb (length xs) (2 * (last_track img * per_track img)) (λ e. h (e ∙ sym wide))) refl

  pub host-second : length xs ≡ 2 * n → (length ys ≡ 2 * n → ⊥) → survey 40 xs ys ≡ host_census img xs ys
  unfolding host_census
  host-second l h =
      rw (p.0, eq-eqb (length xs) (2 * (last_track img * per_track img)) (l ∙ wide), ne_eqb (length ys) (2 * (last_track img * per_track img)) (λ e. h (e ∙ sym wide))) refl

  -- at most 79 · 36
  pub few : n ≤ 2844
  few = rw all_sectors (data-few (last_track img) (per_track img) (shape_is img p.0).shape)

pub host-wrong : (img xs ys : List ℕ) {z : Option Shape} → z ≡ shape_of img → z ≡ None → survey 41 xs ys ≡ host_census img xs ys
unfolding host_census
host-wrong img xs ys e r = rw (none-is img e r) refl

pub host-both : (img xs ys us vs : List ℕ) {e : ℕ} {us' vs' xs' ys' : List ℕ} → shape_right img ≡ true → length us ≡ last_track img * per_track img
    → length vs ≡ length us → length xs ≡ 2 * length us → length ys ≡ 2 * length us → length us' ≡ length us → length vs' ≡ length vs
    → survey e us' vs' ≡ census img us vs → xs' ≡ over xs 0 (as_bytes us') → ys' ≡ over ys 0 (as_bytes vs')
    → survey e xs' ys' ≡ host_census img xs ys
unfolding host_census census bytes_of
host-both img xs ys us vs {e} {us'} {vs'} {xs'} {ys'} s k m l₁ l₂ p₁ p₂ c d₁ d₂ =
    let q : survey e us' vs' ≡ concluded img (last_track img) (per_track img) (fault img (last_track img) (per_track img))
    = rw (s, eq-eqb (length us) (last_track img * per_track img) k, eq-eqb (length vs) (last_track img * per_track img) (m ∙ k)) at c in
    let a : xs' ≡ as_bytes us' = d₁ ∙ over-exact xs (as_bytes us') (omega (arith, length-bytes us')) in
    let b : ys' ≡ as_bytes vs' = d₂ ∙ over-exact ys (as_bytes vs') (omega (arith, length-bytes vs')) in
    rw (
      s,
      eq-eqb (length xs) (2 * (last_track img * per_track img)) (l₁ ∙ ap (λ (j : ℕ). 2 * j) k),
      eq-eqb (length ys) (2 * (last_track img * per_track img)) (l₂ ∙ ap (λ (j : ℕ). 2 * j) k),
      a,
      b,
    )
    (ap bytes_of q ∙ concluded-bytes img (last_track img) (per_track img) (fault img (last_track img) (per_track img)))

-- ---- room for the numbers, k of them

pub room : (k n : ℕ) (us : List ℕ) → k ≡ length us → n ≤ k → n ≡ length (take n us)
room k n us l h = sym (length-take-le n us (omega arith))

pub ready : (img xs ys us vs : List ℕ) (k n : ℕ)
    → (shape_right img ≡ true) × (n ≡ last_track img * per_track img) × (n ≤ k) × (length xs ≡ 2 * n) × (length ys ≡ 2 * n)
    → k ≡ length us → k ≡ length vs
    → (shape_right img ≡ true) × (length (take n us) ≡ last_track img * per_track img) × (length (take n vs) ≡ length (take n us))
    × (length xs ≡ 2 * length (take n us)) × (length ys ≡ 2 * length (take n us))
ready img xs ys us vs k n p l m =
    let a : n ≡ length (take n us) = room k n us l p.2 in
    let b : n ≡ length (take n vs) = room k n vs m p.2 in
    (p.0, sym a ∙ p.1, sym b ∙ a, p.3 ∙ ap (λ (j : ℕ). 2 * j) a, p.4 ∙ ap (λ (j : ℕ). 2 * j) a)
