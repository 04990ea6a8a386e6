-- What an accepted census says: M-as-S numbers, each data sector's once, and beside each its owner: 0, 65,534 for the directory, or the number
-- of a live slot. And that no second outcome fits the census.
use Rattle.std.specs.Prelude.{◌≡◌, refl, ◌⊎◌, Bool, true, false, List, [], ◌∷◌, ℕ, zero, suc, ◌+◌, ◌<◌, length, get_or, replicate, Result}
use Prim.{Unit}
use Rattle.std.proofs.Common.{sym, inl, inr, arith}
use Rattle.rules.specs.Bytes.{pick}
use Rattle.rules.specs.Refusals.{number_of}
use Rattle.rules.specs.declared.refusal.Refusal.{Refusal}
use Rattle.rules.specs.Image.{last_track, per_track, free_count}
use Rattle.rules.specs.Directory.{directory, slots, live, size_at}
use Rattle.rules.specs.Census.{file_owners, files_owners, directory_numbers, directory_owner, listed, owners, tally, Survey, survey, census}
use Rattle.laws.specs.Each.{Each, each_append, each-so, each_at}
use Rattle.laws.specs.Refusals.{done-inj}
use Rattle.laws.specs.Counting.{once_is}
use Rattle.laws.specs.Surveys.{data_sectors, length-owners, census-is}
use Rattle.laws.proofs.Surveys.{length-listed, listed_below}

-- ---- owners

-- a live slot's number, where the slots os are counted from k on
abbrev pub NumberOf : List ℕ → ℕ → List ℕ → ℕ → Type 0
NumberOf img k os v = (j : ℕ) × (j < length os) × (v ≡ k + j) × (live img (get_or os j 0) ≡ true)

each-replicate : (P : ℕ → Type 0) (n v : ℕ) → P v → Each P (replicate n v)
each-replicate P zero v p = tt
each-replicate P (suc n) v p = (p, each-replicate P n v p)

file-owned : (img : List ℕ) (o k : ℕ) (os : List ℕ) → Each (NumberOf img k (o ∷ os)) (file_owners img o k)
unfolding file_owners
file-owned img o k os = go (live img o) refl
  where
    go : (b : Bool) → live img o ≡ b → Each (NumberOf img k (o ∷ os)) (pick b (replicate (size_at img o) k) [])
    go true e = each-replicate (NumberOf img k (o ∷ os)) (size_at img o) k (0, omega arith, omega arith, e)
    go false e = tt

files-owned : (img : List ℕ) (k : ℕ) (os : List ℕ) → Each (NumberOf img k os) (files_owners img k os)
unfolding files_owners
files-owned img k [] = tt
files-owned img k (o ∷ os) =
    each_append (NumberOf img k (o ∷ os)) (file_owners img o k) (files_owners img (k + 1) os) (file-owned img o k os)
    (each-so (NumberOf img (k + 1) os) (NumberOf img k (o ∷ os)) (files_owners img (k + 1) os)
    (λ v p. (suc p.0, omega (arith, p.1), omega (arith, p.2), p.3)) (files-owned img (k + 1) os))

-- 0, the directory's, or the number of a live slot
abbrev pub Owner : List ℕ → ℕ → ℕ → ℕ → Type 0
Owner img M S v = (v ≡ 0) ⊎ ((v ≡ directory_owner) ⊎ NumberOf img 1 (slots img M S) v)

owners-owned : (img : List ℕ) (M S : ℕ) → Each (Owner img M S) (owners img M S)
unfolding owners
owners-owned img M S =
    let d = length (directory_numbers S (directory img M S)) in
    each_append (Owner img M S) (replicate (free_count img) 0) _
    (each-replicate (Owner img M S) (free_count img) 0 (inl refl))
    (each_append (Owner img M S) (replicate d directory_owner) (files_owners img 1 (slots img M S))
    (each-replicate (Owner img M S) d directory_owner (inr (inl refl)))
    (each-so (NumberOf img 1 (slots img M S)) (Owner img M S) (files_owners img 1 (slots img M S)) (λ v p. inr (inr p)) (files-owned img 1 (slots img M S))))

-- ---- the accepted census

pub record Accepted (img xs ys : List ℕ) : Type 0 where
  pub numbers : length xs ≡ data_sectors img
  pub once : (k : ℕ) → k < data_sectors img → tally k xs ≡ 1
  pub only : (i : ℕ) → i < length xs → get_or xs i 0 < data_sectors img
  pub beside : length ys ≡ length xs
  pub owner : (i : ℕ) → i < length ys → Owner img (last_track img) (per_track img) (get_or ys i 0)

pub accepted : (img xs ys xs₀ ys₀ : List ℕ) → survey 0 xs ys ≡ census img xs₀ ys₀ → Accepted img xs ys
accepted img xs ys xs₀ ys₀ e =
    let r = census-is img xs₀ ys₀ 0 xs ys (sym e) in
    let s = r.sane refl in
    let h = (r.shaped (λ q. omega arith)).shape.sectors in
    let M = last_track img in
    let S = per_track img in
    let lists = r.accepted refl in
    rw (lists.0, lists.1)
    (record {
      numbers = length-listed img M S h s;
      once = once_is (data_sectors img) (listed img M S) s.once;
      only = λ i b. each_at (λ (x : ℕ). x < data_sectors img) (listed img M S) i 0 (listed_below img M S h s) b;
      beside = length-owners img M S;
      owner = λ i b. each_at (Owner img M S) (owners img M S) i 0 (owners-owned img M S) b;
    })

-- ---- no second outcome fits: answer and both outputs
abbrev pub SingleSurvey : Survey → Type 0
SingleSurvey s = (e e' : ℕ) (xs xs' ys ys' : List ℕ) → survey e xs ys ≡ s → survey e' xs' ys' ≡ s → (e ≡ e') × (xs ≡ xs') × (ys ≡ ys')

pub single-survey : (s : Survey) → SingleSurvey s
single-survey s e e' xs xs' ys ys' p q = (cc, cc, cc)

-- and no second result
abbrev pub SingleSurveyed : Survey → Type 0
SingleSurveyed s =
    SingleSurvey s
    × ((x y : Result (Unit {0}) Refusal) (xs xs' ys ys' : List ℕ) → survey (number_of x) xs ys ≡ s → survey (number_of y) xs' ys' ≡ s
    → (x ≡ y) × (xs ≡ xs') × (ys ≡ ys'))

pub single-surveyed : (s : Survey) → SingleSurveyed s
single-surveyed s = (
  single-survey s,
  λ x y xs xs' ys ys' p q.
      let t = single-survey s (number_of x) (number_of y) xs xs' ys ys' p q in
      (done-inj x y t.0, t.1, t.2),
)
