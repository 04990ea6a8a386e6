-- Lines put one behind the other, turn by turn; the report of a survey.
use Rattle.std.specs.Prelude.{◌≡◌, List, [], ◌∷◌, ◌++◌, ℕ, length, take, replicate, ◌≤◌, ⊤, Result, Ok, Err}
use Rattle.std.proofs.Math.Path.{refl}
use Rattle.std.proofs.Common.{ap, sym, ◌∙◌, ◌⊎◌, inl, inr, arith, ne_eqb}
use mathlib.Core.List.{append_assoc}
use Rattle.std.proofs.lemmas.List.{append-nil, take-replicate}
use Rattle.rules.specs.Bytes.{one, zeros}
use Rattle.rules.specs.Text.{decimal, line, lines, report}
use Rattle.rules.specs.Census.{survey, census}
use Rattle.rules.specs.Refusals.{code, number_of}
use Rattle.rules.specs.declared.refusal.Refusal.{Refusal}
use Rattle.laws.specs.Bytes.{length-zeros, take-zeros}
use Rattle.laws.specs.Refusals.{code-not}

-- ---- a line, of its parts
pub line-parts : (x y : ℕ) → ((decimal x ++ 32 ∷ []) ++ decimal y) ++ 10 ∷ [] ≡ line x y
unfolding line one
line-parts x y = append_assoc (decimal x ++ 32 ∷ []) (decimal y) (10 ∷ []) ∙ append_assoc (decimal x) (32 ∷ []) (decimal y ++ 10 ∷ [])

-- ---- the lines that are left: a text w is bs, and those behind it
module _ (w bs xs ys : List ℕ) (i : w ≡ bs ++ lines xs ys) where
  pub lines_end : (xs ≡ []) ⊎ (ys ≡ []) → bs ≡ w
  unfolding lines
  lines_end (inl e) = sym (rw e at i ∙ append-nil bs)
  lines_end (inr e) = sym (rw (e, none xs) at i ∙ append-nil bs)
    where
      none : (zs : List ℕ) → lines zs [] ≡ []
      none [] = refl
      none (z ∷ zs) = refl

  pub lines_more : {x y : ℕ} {bs₁ xs₁ ys₁ : List ℕ} → xs ≡ x ∷ xs₁ → ys ≡ y ∷ ys₁ → bs₁ ≡ bs ++ line x y → w ≡ bs₁ ++ lines xs₁ ys₁
  unfolding lines
  lines_more {x} {y} {bs₁} {xs₁} {ys₁} e f g = rw (e, f) at i ∙ sym (append_assoc bs (line x y) (lines xs₁ ys₁)) ∙ ap (λ (q : List ℕ). q ++ lines xs₁ ys₁) (sym g)

-- ---- the report
module _ (a : ℕ) (xs ys : List ℕ) where
  pub report-refused : (a ≡ 0 → ⊥) → line a 0 ≡ report (survey a xs ys)
  unfolding report
  report-refused h = rw (ne_eqb a 0 h) refl

module _ (r : Result ⊤ Refusal) (xs ys : List ℕ) where
  pub report-done : {u : ⊤} → r ≡ Ok u → line 0 (length xs) ++ lines xs ys ≡ report (survey (number_of r) xs ys)
  unfolding report
  report-done h = rw h refl

  pub report-err : {e : Refusal} → r ≡ Err e → line (code e) 0 ≡ report (survey (number_of r) xs ys)
  unfolding report
  report-err {e} h = rw (h, code-not e) refl

-- with the first n of outputs of zeros
module _ (n : ℕ) (xs : List ℕ) (e : xs ≡ zeros 250) (h : n ≤ 250) where
  first-zeros : take n xs ≡ zeros n
  first-zeros = ap (take n) e ∙ take-zeros n 250 h

  pub first-long : n ≡ length (take n xs)
  first-long = sym (ap length first-zeros ∙ length-zeros n)

  pub first-few : length (take n xs) ≤ 250
  first-few = omega (arith, first-long)

-- with the first n of m zeros
pub report-sized : (img : List ℕ) (n m : ℕ) → n ≤ m → report (census img (take n (replicate m 0)) (take n (replicate m 0))) ≡ report (census img (zeros n) (zeros n))
unfolding zeros
report-sized img n m h = rw (take-replicate {X = ℕ} n m 0 h) refl
