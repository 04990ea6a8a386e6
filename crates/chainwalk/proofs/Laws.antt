-- A chain walked, by how many sectors were met: i of count.
use Rattle.std.specs.Prelude.{◌≡◌, Bool, true, false, Option, Some, None, List, ℕ, ◌+◌, ◌-◌, ◌≤◌, ◌<◌}
use Rattle.std.proofs.Math.Path.{ap, ◌∙◌}
use Rattle.std.proofs.Common.{arith}
use Rattle.rules.specs.Bytes.{over, one}
use Rattle.rules.specs.Image.{index, is_data, data_number, link_of}
use Rattle.census_laws.specs.Walks.{Laid, laid, walk, walk-bad, walk-on, walk-further, walk-elsewhere, walk-done}

pub walked-first : (img : List ℕ) (M S end count before a : ℕ) (out : List ℕ) (at : ℕ) → walk img M S end count before a out at 0 ≡ walk img M S end (count - 0) before a out at 0
walked-first img M S end count before a out at = ap (λ (n : ℕ). walk img M S end n before a out at 0) (omega arith)

module _ (img : List ℕ) (M S end count before a : ℕ) (out : List ℕ) (at i : ℕ) {w : Laid} (v : w ≡ walk img M S end (count - i) before a out at i) where
  pub walked-bad : {b : Bool} → i < count → b ≡ is_data M S a → b ≡ false → laid None out ≡ w
  walked-bad h e k = walk-bad img M S end (count - i) before a out at i v (omega arith) e k

  pub walked-on : {b : Bool} {k x next : ℕ} {out' : List ℕ} → i < count → b ≡ is_data M S a → b ≡ true → k ≡ index S a → x ≡ data_number S k
      → out' ≡ over out (at + i) (one x) → next ≡ link_of img k → w ≡ walk img M S end (count - (i + 1)) a next out' at (i + 1)
  walked-on {next} {out'} h e t p q r l =
      walk-on img M S end (count - i) before a out at i v (omega arith) e t p q r l ∙ ap (λ (n : ℕ). walk img M S end n a next out' at (i + 1)) (omega arith)

  module _ (h : count ≤ i) where
    pub walked-further : (a ≡ 0 → ⊥) → laid None out ≡ w
    walked-further k = walk-further img M S end (count - i) before a out at i v (omega arith) k

    pub walked-elsewhere : a ≡ 0 → (before ≡ end → ⊥) → laid None out ≡ w
    walked-elsewhere k l = walk-elsewhere img M S end (count - i) before a out at i v (omega arith) k l

    pub walked-done : i ≤ count → a ≡ 0 → before ≡ end → laid (Some count) out ≡ w
    walked-done b k l = ap (λ (n : ℕ). laid (Some n) out) (omega arith) ∙ walk-done img M S end (count - i) before a out at i v (omega arith) k l
