-- Laws of the leaves: a loop over a slice, a part back in its place, bytes past the end, a number of two bytes.
use mathlib.Core.Path.{◌≡◌, refl, sym, ap, ap₂, ◌∙◌}
use mathlib.Core.List.{List, [], ◌∷◌, ◌++◌}
use Prim.Native.Nat.{ℕ, ◌+◌, ◌-◌, ◌/◌, ◌%◌, ◌<◌, ◌≤◌, min}
use native.Mathlib.Omega.{arith}
use borrow.Rule.Slice.PartMut.{mid_of, put_mid, mid_len}
use lib.ListN.{length, get_or, set, take, drop, replicate}
use native.Mathlib.Numerals.{add-one}
use lib.Seq.{take_all, take-suc}
use Rattle.std.proofs.lemmas.List.{take_more_set, take-replicate, length-replicate, get_or-replicate}
use Rattle.rules.specs.Bytes.{part, over, one, two, six, zeros}
use Rattle.laws.specs.Bytes.{length-zeros, drop-zeros, part_slice, part_join, part-past, over-append, over-again}
use Rattle.laws.specs.Lent.{over-part, over-whole}

-- ---- a loop that sets every value to that of vs with the same index: d is the slice after i of them
module _ {A : Type 0} (d vs : List A) (i : ℕ) (e : take i d ≡ take i vs) where
  pub laid-more : (v : A) → i < length d → i < length vs → v ≡ get_or vs i v → take (i + 1) (set d i v) ≡ take (i + 1) vs
  laid-more v h k a =
      take_more_set d i v h ∙ ap (λ l. l ++ (v ∷ [])) e ∙ ap (λ x. take i vs ++ (x ∷ [])) a ∙ rw add-one (sym (take-suc vs i v k))

  pub laid-end : (n : ℕ) → length d ≡ n → n ≤ i → i ≤ n → d ≡ take n vs
  laid-end n l h k = let t : i ≡ n = omega arith in sym (take_all i d (omega arith)) ∙ e ∙ ap (λ j. take j vs) t

-- the same where vs is one value
module _ {A : Type 0} (d : List A) (i n : ℕ) (v : A) (e : take i d ≡ take i (replicate n v)) (l : length d ≡ n) where
  pub filled-more : i < n → take (i + 1) (set d i v) ≡ take (i + 1) (replicate n v)
  filled-more h = laid-more d (replicate n v) i e v (omega arith) (omega (arith, length-replicate {A = A} n v)) (sym (get_or-replicate n i v v h))

  pub filled-end : n ≤ i → i ≤ n → d ≡ replicate n v
  filled-end h k = laid-end d (replicate n v) i e n l h k ∙ take_all n (replicate n v) (omega (arith, length-replicate {A = A} n v))

-- ---- the part back in its place, up to e: d is the part after a store into it
module _ {A : Type 0} (m d : List A) (at e : ℕ) (h : at ≤ e) (a : e ≤ length m) where
  -- as many of vs as there is room for
  pub laid-all : (vs : List A) → e ≡ at + length vs → d ≡ take (length (mid_of at (e - at) m)) vs → put_mid at (e - at) m d ≡ over m at vs
  laid-all vs q r = over-whole m d vs at e h a (omega arith) (λ b. omega arith) r

  pub laid-rest : (vs : List A) → e ≡ length m → e - at < length vs → d ≡ take (length (mid_of at (e - at) m)) vs → put_mid at (e - at) m d ≡ over m at vs
  laid-rest vs q b r = over-whole m d vs at e h a (omega arith) (λ u. omega arith) r

  -- one value, as often as there is room
  pub laid-run : (n k : ℕ) (v : A) → e ≡ at + k → k ≡ min n (length m - at) → d ≡ replicate (length (mid_of at (e - at) m)) v → put_mid at (e - at) m d ≡ over m at (replicate n v)
  laid-run n k v q r s =
      let l : length (mid_of at (e - at) m) ≡ e - at = mid_len at e m a in
      over-whole m d (replicate n v) at e h a (omega (arith, length-replicate {A = A} n v)) (λ b. omega (arith, length-replicate {A = A} n v))
      (s ∙ sym (take-replicate (length (mid_of at (e - at) m)) n v (omega arith)))

-- ---- n bytes of a list from a place on, 0 past its end

module _ (m d src : List ℕ) (at from n : ℕ) where
  -- all are there
  pub copied-part : from < length src → n ≤ length src - from → d ≡ over m at (mid_of from (from + n - from) src) → d ≡ over m at (part src from n)
  copied-part h k e = over-part m d src at from n (omega arith) e

  -- some
  pub copied-rest : (c : List ℕ) → from < length src → length src - from < n → c ≡ over m at (zeros n) → d ≡ over c at (mid_of from (length src - from) src)
      → d ≡ over m at (part src from n)
  copied-rest c h k e f =
      let l : length (mid_of from (length src - from) src) ≡ length src - from = mid_len from (length src) src (omega arith) in
      f
      ∙ ap (λ (x : List ℕ). over x at (mid_of from (length src - from) src)) e
      ∙ over-again m (zeros n) (mid_of from (length src - from) src) at (omega (arith, length-zeros n))
      ∙ ap (over m at) (sym (short l))
    where
      short : length (mid_of from (length src - from) src) ≡ length src - from → part src from n ≡ mid_of from (length src - from) src ++ drop (length (mid_of from (length src - from) src)) (zeros n)
      short l =
          let s : n ≡ length src - from + (n - (length src - from)) = omega arith in
          ap (part src from) s
          ∙ sym (part_join src (length src - from) (n - (length src - from)) from (length src) (omega arith))
          ∙ ap₂ (λ (x y : List ℕ). x ++ y) (part_slice src from (length src - from) (omega arith))
          (part-past src (length src) (n - (length src - from)) (omega arith)
          ∙ sym (drop-zeros (length src - from) n)
          ∙ ap (λ (j : ℕ). drop j (zeros n)) (sym l))

  -- none
  pub copied_none : length src ≤ from → d ≡ over m at (zeros n) → d ≡ over m at (part src from n)
  copied_none h e = e ∙ ap (over m at) (sym (part-past src from n h))

-- ---- numbers of two bytes, stored byte by byte and in a row: bs are the bytes of v

pub two-stored : (m c d bs : List ℕ) (at v : ℕ) → bs ≡ v / 256 % 256 ∷ v % 256 ∷ [] → c ≡ over m at (one (get_or bs 0 0)) → d ≡ over c (at + 1) (one (get_or bs 1 0)) → d ≡ over m at (two v)
unfolding one two
two-stored m c d bs at v b e f =
    f
    ∙ ap₂ (λ (x l : List ℕ). over x (at + 1) (get_or l 1 0 ∷ [])) (e ∙ ap (λ (l : List ℕ). over m at (get_or l 0 0 ∷ [])) b) b
    ∙ sym (over-append m at (v / 256 % 256 ∷ []) (v % 256 ∷ []))

pub six-row : (m d xs ys zs : List ℕ) (at x y z : ℕ) → xs ≡ x / 256 % 256 ∷ x % 256 ∷ [] → ys ≡ y / 256 % 256 ∷ y % 256 ∷ [] → zs ≡ z / 256 % 256 ∷ z % 256 ∷ []
    → (b : List ℕ) → b ≡ xs ++ (ys ++ (zs ++ [])) → d ≡ over m at b → d ≡ over m at (six x y z)
unfolding six
six-row m d xs ys zs at x y z e f g b h k = rw (k, h, e, f, g) refl
