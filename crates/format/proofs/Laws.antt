-- Laws that the proofs of this crate cite: a sector stored, a turn of the loop over the sectors and its end.
use mathlib.Core.Path.{◌≡◌, sym, ap, ◌∙◌}
use mathlib.Core.List.{List, ◌++◌}
use Prim.Native.Nat.{ℕ, ◌+◌, ◌-◌, ◌*◌, ◌≤◌}
use native.Mathlib.Numerals.{add-one}
use native.Mathlib.Omega.{arith}
use borrow.Rule.Slice.PartMut.{mid_of, put_mid}
use lib.ListN.{length}
use Rattle.rules.specs.Bytes.{over, zeros}
use Rattle.rules.specs.Stores.{puts}
use Rattle.rules.specs.Format.{settings, blank_sector, blank_to, blank}
use Rattle.laws.specs.Bytes.{over-append}
use Rattle.laws.specs.Lent.{over-within, over-exact}
use Rattle.laws.specs.Blank.{length-blank_to}

-- a block stored into the part of the image that is its sector
pub sector-stored : (img d b : List ℕ) (k : ℕ) → 256 * k + 256 ≤ length img → length b ≡ 256 → d ≡ over (mid_of (256 * k) (256 * k + 256 - 256 * k) img) 0 b
    → put_mid (256 * k) (256 * k + 256 - 256 * k) img d ≡ over img (256 * k) b
sector-stored img d b k h l e = over-within img d b (256 * k) 256 0 h (omega arith) e ∙ ap (λ (at : ℕ). over img at b) (let q : 256 * k + 0 ≡ 256 * k = omega arith in q)

-- ---- the loop

module _ (M S : ℕ) (label : List ℕ) (volume month day year : ℕ) (img : List ℕ) where
  abbrev to : ℕ → List ℕ
  to k = blank_to M S label volume month day year k

  pub fill_more : (k : ℕ) {b i i' : List ℕ} → i' ≡ over i (256 * k) b → b ≡ puts (zeros 256) 0 (settings M S label volume month day year k) → i ≡ over img 0 (to k)
      → i' ≡ over img 0 (to (k + 1))
  unfolding blank_to blank_sector
  fill_more k {b} {i} {i'} p q v =
      let e : over (over img 0 (to k)) (256 * k) b ≡ over img 0 (to k ++ b) =
      ap (λ (at : ℕ). over (over img 0 (to k)) at b) (omega (arith, length-blank_to M S label volume month day year k)) ∙ sym (over-append img 0 (to k) b) in
      p ∙ ap (λ (l : List ℕ). over l (256 * k) b) v ∙ e ∙ ap (λ (l : List ℕ). over img 0 (to k ++ l)) q
      ∙ ap (λ (m : ℕ). over img 0 (to m)) (sym (add-one k))

  pub fill-all : (k n : ℕ) {i : List ℕ} → i ≡ over img 0 (to k) → k ≤ n → n ≤ k → n ≡ (M + 1) * S → length img ≡ (M + 1) * S * 256 → i ≡ blank M S label volume month day year
  unfolding blank
  fill-all k n v a b q l =
      let e : k ≡ n = omega arith in
      v ∙ over-exact img (to k) (length-blank_to M S label volume month day year k ∙ omega arith) ∙ ap to (e ∙ q)
