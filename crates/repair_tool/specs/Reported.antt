-- What the repair program prints: the census before, repair's answer, the census after.
use Rattle.std.specs.Prelude.{◌≡◌, List, [], ◌∷◌, ◌++◌, ℕ, ◌*◌}
use Rattle.std.proofs.Math.Path.{refl}
use Rattle.std.proofs.Common.{ap, ◌∙◌}
use mathlib.Core.List.{append_assoc}
use Rattle.rules.specs.Bytes.{one, zeros}
use Rattle.rules.specs.Outcome.{told, says_of, left_of}
use Rattle.rules.specs.Block.{blocks, block_length}
use Rattle.rules.specs.Text.{decimal, printed}
use Rattle.rules.specs.Repair.{repair}

-- the table that repair is lent: every block is closed
unfoldable pub closed : List ℕ
closed = zeros (block_length * blocks)

-- "repair ", the answer and a newline
unfoldable pub answered : ℕ → List ℕ
answered a = (114 ∷ 101 ∷ 112 ∷ 97 ∷ 105 ∷ 114 ∷ 32 ∷ []) ++ (decimal a ++ one 10)

unfoldable pub reported : List ℕ → List ℕ
reported img = printed img ++ (answered (says_of (repair img closed)) ++ printed (left_of (repair img closed)))

-- the line
pub answer-parts : (a : ℕ) → ((114 ∷ 101 ∷ 112 ∷ 97 ∷ 105 ∷ 114 ∷ 32 ∷ []) ++ decimal a) ++ 10 ∷ [] ≡ answered a
unfolding answered one
answer-parts a = append_assoc (114 ∷ 101 ∷ 112 ∷ 97 ∷ 105 ∷ 114 ∷ 32 ∷ []) (decimal a) (10 ∷ [])

-- the three parts
module _ (img : List ℕ) {tab img₁ : List ℕ} {a : ℕ} (c : tab ≡ closed) (r : told a img₁ ≡ repair img tab) where
  pub left_is : img₁ ≡ left_of (repair img closed)
  left_is = ap left_of (r ∙ ap (repair img) c)

  says-is : a ≡ says_of (repair img closed)
  says-is = ap says_of (r ∙ ap (repair img) c)

  pub whole : (printed img ++ answered a) ++ printed img₁ ≡ reported img
  unfolding reported
  whole = append_assoc (printed img) (answered a) (printed img₁) ∙ rw (says-is, left_is) refl
