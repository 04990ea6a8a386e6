-- From what the census's steps say to its rules.
use mathlib.Core.Path.{◌≡◌, refl, sym, ap, ap₂, ◌∙◌}
use mathlib.Core.Bool.{Bool, true, false}
use mathlib.Core.List.{List, ◌++◌}
use Prim.Native.Nat.{ℕ, ◌+◌, ◌*◌}
use native.Mathlib.Omega.{arith}
use lib.ListN.{length, replicate, length-replicate}
use borrow.Author.Tests.{eq-eqb, ne_eqb}
use Rattle.rules.specs.Bytes.{over, zeros}
use Rattle.rules.specs.Image.{free_count}
use Rattle.rules.specs.Directory.{slots}
use Rattle.rules.specs.Refusals.{code, number_of}
use Rattle.rules.specs.declared.refusal.Refusal.{Refusal}
use Rattle.rules.specs.Census.{directory_owner, Survey, survey, fault, concluded, census}
use Rattle.laws.specs.Refusals.{refused}
use Rattle.laws.specs.Bytes.{over-append}
use Rattle.laws.specs.Addresses.{Limits, shape_is}
use Rattle.disk.specs.Loaded.{shape_of}
use Rattle.disk.specs.Shapes.{some_is, none-is}
use Rattle.disk.specs.declared.Shape.{Shape}
use Rattle.std.specs.Prelude.{Option, Some, None, Result, Ok, Err}
use Rattle.census_laws.specs.Numbered.{files_numbered}
use Rattle.census_laws.specs.Marks.{marked, marking}
use Rattle.census_laws.specs.Whole.{mended, owners_by, ended, ending, sized, sized-done, sized-filled}

-- the owners of the free chain, those of the directory's own sectors behind them, and then those of files
pub own-done : (img : List ℕ) (M S d : ℕ) (out out₁ out₂ out₃ : List ℕ) {k : ℕ} → k ≡ free_count img → out₁ ≡ over out 0 (replicate k 0)
    → out₂ ≡ over out₁ k (replicate d directory_owner) → out₃ ≡ over out₂ (k + d) (files_numbered img 1 (slots img M S)) → out₃ ≡ over out 0 (owners_by img M S d)
unfolding owners_by
own-done img M S d out out₁ out₂ out₃ {k} c a b e =
    let n = free_count img in
    let fs = files_numbered img 1 (slots img M S) in
    let l : k ≡ 0 + length {A = ℕ} (replicate n 0) = omega (arith, length-replicate {A = ℕ} n 0) in
    let m : k + d ≡ 0 + length {A = ℕ} (replicate n 0) + length {A = ℕ} (replicate d directory_owner) = omega (arith, length-replicate {A = ℕ} n 0, length-replicate {A = ℕ} d directory_owner) in
    let first : out₂ ≡ over (over out 0 (replicate n 0)) (0 + length {A = ℕ} (replicate n 0)) (replicate d directory_owner) =
    b ∙ ap₂ (λ (x : List ℕ) (i : ℕ). over x i (replicate d directory_owner)) (rw c at a) l in
    e
    ∙ ap₂ (λ (x : List ℕ) (i : ℕ). over x i fs) first m
    ∙ sym (over-append out 0 (replicate n 0) (replicate d directory_owner ++ fs) ∙ over-append (over out 0 (replicate n 0)) (0 + length {A = ℕ} (replicate n 0)) (replicate d directory_owner) fs)

-- ---- the end
module _ (img : List ℕ) (M S own n : ℕ) (xs ys : List ℕ) where
  pub end_short : (n ≡ length xs → ⊥) → ended 46 ys ≡ ending img M S own n xs ys
  unfolding ending
  end_short h = rw (ne_eqb n (length xs) h) refl

  module _ {b : Bool} {ms : List ℕ} (h : n ≡ length xs) (d : marked b ms ≡ marking (zeros (length ys)) xs) where
    pub end-twice : b ≡ false → ended 46 ms ≡ ending img M S own n xs ys
    unfolding ending
    end-twice k = rw (eq-eqb n (length xs) h, ← d, k) refl

    pub end-owned : {out : List ℕ} → b ≡ true → out ≡ over ms 0 (owners_by img M S own) → ended 0 out ≡ ending img M S own n xs ys
    unfolding ending
    end-owned k e = rw (eq-eqb n (length xs) h, ← d, k, e) refl

-- ---- lengths, and what a refusal leaves
module _ (img : List ℕ) (M S : ℕ) (xs ys : List ℕ) {n : ℕ} (c : n ≡ M * S) (p : length xs ≡ n) (q : length ys ≡ n) {A : Type 0} {r : Result A Refusal} (xs₁ ys₁ : List ℕ)
    (d : mended (number_of r) xs₁ ys₁ ≡ concluded img M S (fault img M S)) where
  pub sized-ok : {u : A} → r ≡ Ok u → survey 0 xs₁ ys₁ ≡ sized img M S xs ys
  sized-ok h = ap (λ (x : Result A Refusal). survey (number_of x) xs₁ ys₁) (sym h) ∙ sized-done img M S xs ys c p q (number_of r) xs₁ ys₁ d (ap number_of h)

  pub sized-refused : {e : Refusal} {xs₂ ys₂ : List ℕ} → r ≡ Err e → xs₂ ≡ replicate (length xs₁) 65535 → ys₂ ≡ replicate (length ys₁) 65535
      → survey (code e) xs₂ ys₂ ≡ sized img M S xs ys
  sized-refused {e} {xs₂} {ys₂} h a b =
      ap (λ (x : Result A Refusal). survey (number_of x) xs₂ ys₂) (sym h)
      ∙ sized-filled img M S xs ys c p q (number_of r) xs₁ ys₁ d (λ z. absurd (omega (arith, refused h, z))) a b

-- ---- the shape
module _ (img xs ys : List ℕ) {s : Option Shape} (e : s ≡ shape_of img) where
  pub census-wrong : s ≡ None → survey 41 xs ys ≡ census img xs ys
  unfolding census
  census-wrong k = rw (none-is img e k) refl

  -- its M and S are those of a diskette
  pub census-shape : {t : Shape} → s ≡ Some t → Limits t.last t.per
  census-shape k = let r = some_is img e k in rw (r.1, r.2) (shape_is img r.0).shape

  pub census-right : {t : Shape} {w : Survey} → s ≡ Some t → w ≡ sized img t.last t.per xs ys → w ≡ census img xs ys
  unfolding census sized
  census-right {t} {w} k d = let r = some_is img e k in rw r.0 (rw (r.1, r.2) at d)
