-- Classes of bytes; a name's first byte and the others; the two parts of a name.
use mathlib.Core.Path.{◌≡◌, refl, sym, ap, ◌∙◌}
use mathlib.Core.Bool.{Bool, true, false, ◌&&◌, ◌||◌, cond}
use mathlib.Core.List.{List, [], ◌∷◌, ◌++◌}
use mathlib.Core.Logic.{◌⊎◌, inl, inr}
use Prim.Native.Nat.{ℕ, suc, ◌+◌, ◌-◌, ◌≤◌, ◌<◌}
use native.Mathlib.Omega.{arith}
use lib.Dec.{eqb, leb}
use lib.ListN.{length, get_or, take, drop}
use lib.Seq.{take_all, take-append-le, drop-append_seam}
use borrow.Author.Tests.{le-leb, lt-leb, ne_eqb}
use Rattle.std.specs.List.{list_all, prefix_len}
use Rattle.rules.specs.Bytes.{pick, ◌and◌, ◌or◌, within, part, over}
use Rattle.rules.specs.Names.{is_letter, is_digit, is_name_byte, all_zero, goes_on, is_word, legal}
use Rattle.laws.specs.Bytes.{length_part, part_join}
use Rattle.laws.specs.Lent.{over-exact}

-- ---- classes

within-is : (s t : Bool) → (s && t) ≡ (s and t)
within-is true t = refl
within-is false t = refl

-- letters, interval by interval
module _ (b : ℕ) where
  pub letter-below : b < 65 → false ≡ is_letter b
  unfolding is_letter within
  letter-below h = rw (lt-leb 65 b h, lt-leb 97 b (omega arith)) refl

  pub letter-upper : 65 ≤ b → b ≤ 90 → true ≡ is_letter b
  unfolding is_letter within
  letter-upper h k = rw (le-leb 65 b h, le-leb b 90 k) refl

  pub letter-between : 90 < b → b < 97 → false ≡ is_letter b
  unfolding is_letter within
  letter-between h k = rw (le-leb 65 b (omega arith), lt-leb b 90 h, lt-leb 97 b k) refl

  pub letter-lower : 97 ≤ b → b ≤ 122 → true ≡ is_letter b
  unfolding is_letter within
  letter-lower h k = rw (le-leb 65 b (omega arith), lt-leb b 90 (omega arith), le-leb 97 b h, le-leb b 122 k) refl

  pub letter-above : 122 < b → false ≡ is_letter b
  unfolding is_letter within
  letter-above h = rw (le-leb 65 b (omega arith), lt-leb b 90 (omega arith), le-leb 97 b (omega arith), lt-leb b 122 h) refl

module _ (b : ℕ) {l : Bool} (e : l ≡ is_letter b) where
  pub byte-letter : l ≡ true → true ≡ is_name_byte b
  unfolding is_name_byte
  byte-letter h = rw (← e, h) refl

  pub byte-digit : {d : Bool} → l ≡ false → d ≡ is_digit b → d ≡ true → true ≡ is_name_byte b
  unfolding is_name_byte
  byte-digit h q k = rw (← e, h, ← q, k) refl

  pub byte-sign : {d : Bool} → l ≡ false → d ≡ is_digit b → d ≡ false → (b ≡ 45) ⊎ (b ≡ 95) → true ≡ is_name_byte b
  unfolding is_name_byte
  byte-sign h q k (inl s) = rw (← e, h, ← q, k, s) refl
  byte-sign h q k (inr s) = rw (← e, h, ← q, k, s) refl

  pub byte-other : {d : Bool} → l ≡ false → d ≡ is_digit b → d ≡ false → ((b ≡ 45) ⊎ (b ≡ 95) → ⊥) → false ≡ is_name_byte b
  unfolding is_name_byte
  byte-other h q k s = rw (← e, h, ← q, k, ne_eqb b 45 (λ x. s (inl x)), ne_eqb b 95 (λ x. s (inr x))) refl

-- ---- the bytes behind the first: they are zeros from the first on that is no byte of a name

zeros-are : (bs : List ℕ) → list_all (λ b. eqb b 0) bs ≡ all_zero bs
unfolding all_zero
zeros-are [] = refl
zeros-are (b ∷ bs) = within-is (eqb b 0) (list_all (λ c. eqb c 0) bs) ∙ ap (λ (t : Bool). eqb b 0 and t) (zeros-are bs)

goes-is : (bs : List ℕ) → list_all (λ b. eqb b 0) (drop (prefix_len is_name_byte bs) bs) ≡ goes_on bs
unfolding goes_on
goes-is [] = refl
goes-is (b ∷ bs) = go (is_name_byte b) (goes-is bs)
  where
    go : (t : Bool) → list_all (λ c. eqb c 0) (drop (prefix_len is_name_byte bs) bs) ≡ goes_on bs
        → list_all (λ c. eqb c 0) (drop (cond t (1 + prefix_len is_name_byte bs) 0) (b ∷ bs)) ≡ pick t (goes_on bs) (all_zero (b ∷ bs))
    go true ih = ap (λ (k : ℕ). list_all (λ c. eqb c 0) (drop k (b ∷ bs))) (let s : 1 + prefix_len is_name_byte bs ≡ suc (prefix_len is_name_byte bs) = omega arith in s) ∙ ih
    go false ih = zeros-are (b ∷ bs)

-- ---- a word, a name

pub word-none : (bs : List ℕ) → length bs < 1 → false ≡ is_word bs
unfolding is_word
word-none [] h = refl
word-none (b ∷ bs) h = absurd (omega arith)

pub word-no : (bs : List ℕ) {r : Bool} → 1 ≤ length bs → r ≡ is_letter (get_or bs 0 0) → r ≡ false → r ≡ is_word bs
unfolding is_word
word-no [] h e k = absurd (omega arith)
word-no (b ∷ bs) h e k = rw (← e, k) refl

pub word_on : (bs : List ℕ) {r o : Bool} → 1 ≤ length bs → r ≡ is_letter (get_or bs 0 0) → r ≡ true
    → (rest : List ℕ) → rest ≡ take (length bs - 1) (drop 1 bs) → o ≡ list_all (λ b. eqb b 0) (drop (prefix_len is_name_byte rest) rest) → o ≡ is_word bs
unfolding is_word
word_on [] h e k rest q d = absurd (omega arith)
word_on (b ∷ bs) h e k rest q d = rw (← e, k) (d ∙ goes-is rest ∙ ap goes_on (q ∙ take_all (length (b ∷ bs) - 1) bs (omega arith)))

-- name is a copy of eleven bytes of m: its eight and its three
module _ (m name ws : List ℕ) (at : ℕ) (e : name ≡ over ws 0 (part m at 11)) (l : length ws ≡ 11) where
  both : name ≡ part m at 8 ++ part m (at + 8) 3
  both = e ∙ over-exact ws (part m at 11) (length_part m at 11 ∙ sym l) ∙ sym (part_join m 8 3 at (at + 8) refl)

  eight : take 8 name ≡ part m at 8
  eight = rw both (take-append-le 8 (part m at 8) (part m (at + 8) 3) (omega (arith, length_part m at 8)) ∙ take_all 8 (part m at 8) (omega (arith, length_part m at 8)))

  three : take 3 (drop 8 name) ≡ part m (at + 8) 3
  three =
      ap (take 3) (rw both (ap (λ (k : ℕ). drop k (part m at 8 ++ part m (at + 8) 3)) (sym (length_part m at 8)) ∙ drop-append_seam (part m at 8) (part m (at + 8) 3)))
      ∙ take_all 3 (part m (at + 8) 3) (omega (arith, length_part m (at + 8) 3))

  module _ {r : Bool} (q : r ≡ is_word (take 8 name)) where
    pub legal-no : r ≡ false → r ≡ legal m at
    unfolding legal
    legal-no k = rw (← eight, ← q, k) refl

    pub legal-on : {o : Bool} → r ≡ true → o ≡ is_word (take 3 (drop 8 name)) → o ≡ legal m at
    unfolding legal
    legal-on k d = rw (← eight, ← q, k) (d ∙ ap is_word three)
