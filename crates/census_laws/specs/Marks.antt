-- Each number once, by marks: a list of n numbers holds each number below n once just where it meets no mark twice.
use Rattle.std.specs.Prelude.{◌≡◌, Bool, true, false, List, [], ◌∷◌, ℕ, zero, suc, ◌+◌, ◌≤◌, ◌<◌, length, get_or, set, drop, replicate, eqb, ltb}
use Rattle.std.proofs.Math.Path.{refl}
use Rattle.std.proofs.Common.{sym, ap, ◌∙◌, subst, arith, add-one, length-set, drop_of_length-le, get_or-set_same, get_or-set_other, drop-cons}
use Rattle.std.proofs.Math.Decide.{ℕ_discrete, dec_lt}
use borrow.Author.Tests.{eq-eqb, ne_eqb, eqb-true, lt-ltb, le-ltb, ltb-true}
use Rattle.rules.specs.Bytes.{pick, zeros}
use Rattle.rules.specs.Census.{tally, each_once}
use Rattle.laws.specs.Tests.{both, pick_all}
use Rattle.laws.specs.Each.{Each}
use Rattle.laws.specs.Counting.{total, total-out, total-in, total-few, total-below, total-once, once_is, once-true, once-length}
use Rattle.laws.specs.Bytes.{zeros-at, length-zeros}

-- ---- counted in full

total-most : (n : ℕ) (xs : List ℕ) → total 0 n xs ≤ length xs
total-most n [] = omega (arith, total-below n [] tt)
total-most n (x ∷ xs) = go (dec_lt x n) (total-most n xs)
  where
    go : Dec (x < n) → total 0 n xs ≤ length xs → total 0 n (x ∷ xs) ≤ suc (length xs)
    go (yes b) h = omega (arith, total-in 0 n x xs (omega arith) (omega arith))
    go (no b) h = omega (arith, total-out 0 n x xs (λ u v. omega arith))

-- a list of which all count has all below n
total-full : (n : ℕ) (xs : List ℕ) → total 0 n xs ≡ length xs → Each (λ (x : ℕ). x < n) xs
total-full n [] h = tt
total-full n (x ∷ xs) h = go (dec_lt x n) (total-full n xs)
  where
    go : Dec (x < n) → (total 0 n xs ≡ length xs → Each (λ (y : ℕ). y < n) xs) → (x < n) × Each (λ (y : ℕ). y < n) xs
    go (yes b) ih = (b, ih (omega (arith, total-in 0 n x xs (omega arith) (omega arith))))
    go (no b) ih = absurd (omega (arith, total-out 0 n x xs (λ u v. omega arith), total-most n xs))

-- what is not below n does not stand there
tally-high : (n k : ℕ) (xs : List ℕ) → n ≤ k → Each (λ (x : ℕ). x < n) xs → tally k xs ≡ 0
unfolding tally
tally-high n k [] h e = refl
tally-high n k (x ∷ xs) h e = rw (ne_eqb x k (λ q. omega (arith, e.0))) (omega (arith, tally-high n k xs h e.1))

-- ---- each once

-- a list of n numbers that holds each below n once holds none twice, and no other
once-most : (n : ℕ) (xs : List ℕ) → each_once n xs ≡ true → length xs ≡ n → Each (λ (x : ℕ). x < n) xs × ((k : ℕ) → tally k xs ≤ 1)
once-most n xs h e = (all, λ k. go k (dec_lt k n))
  where
    all : Each (λ (x : ℕ). x < n) xs
    all = total-full n xs (total-once n xs h ∙ sym e)

    go : (k : ℕ) → Dec (k < n) → tally k xs ≤ 1
    go k (yes b) = omega (arith, once_is n xs h k b)
    go k (no b) = omega (arith, tally-high n k xs (omega arith) all)

-- a list of numbers below n that has not n of them does not hold each once
pub once-short : (n : ℕ) (xs : List ℕ) → Each (λ (x : ℕ). x < n) xs → (length xs ≡ n → ⊥) → each_once n xs ≡ false
once-short n xs e h = go (each_once n xs) refl
  where
    go : (b : Bool) → each_once n xs ≡ b → b ≡ false
    go true q = absurd (h (once-length n xs q e))
    go false q = refl

-- n of them, none twice: each once
full-once : (lo d : ℕ) (xs : List ℕ) → ((k : ℕ) → tally k xs ≤ 1) → total lo d xs ≡ d → (k : ℕ) → lo ≤ k → k < lo + d → tally k xs ≡ 1
unfolding total
full-once lo zero xs t e k a b = absurd (omega arith)
full-once lo (suc d) xs t e k a b = go (ℕ_discrete k (lo + d)) (full-once lo d xs t)
  where
    go : Dec (k ≡ lo + d) → (total lo d xs ≡ d → (i : ℕ) → lo ≤ i → i < lo + d → tally i xs ≡ 1) → tally k xs ≡ 1
    go (yes q) ih = ap (λ (i : ℕ). tally i xs) q ∙ omega (arith, t (lo + d), total-few lo d xs t)
    go (no q) ih = ih (omega (arith, t (lo + d), total-few lo d xs t)) k a (omega arith)

-- ---- marks

-- each of a list is below the number of marks, and has none, nor stood before in the list: it gets its mark as it is met
unfoldable pub newcomers : List ℕ → List ℕ → Bool
newcomers ms [] = true
newcomers ms (x ∷ xs) =
    pick (ltb x (length ms))
    (pick (eqb (get_or ms x 0) 0) (newcomers (set ms x 1) xs) false)
    false

-- the same with the marks that are left
pub data Marked : Type 0 where
  marked : Bool → List ℕ → Marked

-- no second answer and marks fit a promise of one
abbrev pub SingleMarked : Marked → Type 0
SingleMarked m = (b b' : Bool) (ms ms' : List ℕ) → marked b ms ≡ m → marked b' ms' ≡ m → (b ≡ b') × (ms ≡ ms')

pub single-marked : (m : Marked) → SingleMarked m
single-marked m b b' ms ms' p q = (cc, cc)

unfoldable pub marking : List ℕ → List ℕ → Marked
marking ms [] = marked true ms
marking ms (x ∷ xs) =
    pick (ltb x (length ms))
    (pick (eqb (get_or ms x 0) 0) (marking (set ms x 1) xs) (marked false ms))
    (marked false ms)

-- turn by turn
module _ (ms xs : List ℕ) (i : ℕ) {w : Marked} {x : ℕ} (v : w ≡ marking ms (drop i xs)) (h : i < length xs) (e : x ≡ get_or xs i 0) where
  mark-more : w ≡ marking ms (x ∷ drop (i + 1) xs)
  mark-more = v ∙ ap (marking ms) (rw (e, add-one i) (drop-cons xs i 0 h))

  pub mark-large : length ms ≤ x → marked false ms ≡ w
  unfolding marking
  mark-large k = rw (mark-more, le-ltb x (length ms) k) refl

  pub mark-twice : x < length ms → (get_or ms x 0 ≡ 0 → ⊥) → marked false ms ≡ w
  unfolding marking
  mark-twice k z = rw (mark-more, lt-ltb x (length ms) k, ne_eqb (get_or ms x 0) 0 z) refl

  pub mark_on : x < length ms → get_or ms x 0 ≡ 0 → w ≡ marking (set ms x 1) (drop (i + 1) xs)
  unfolding marking
  mark_on k z = rw (mark-more, lt-ltb x (length ms) k, eq-eqb (get_or ms x 0) 0 z) refl

pub mark-end : (ms xs : List ℕ) (i : ℕ) {w : Marked} → w ≡ marking ms (drop i xs) → length xs ≤ i → marked true ms ≡ w
unfolding marking
mark-end ms xs i v h = rw (v, drop_of_length-le xs h) refl

-- with all marks cleared first
pub mark-cleared : (ms ms₀ xs : List ℕ) {w : Marked} → w ≡ marking ms xs → ms ≡ replicate (length ms₀) 0 → w ≡ marking (zeros (length ms₀)) xs
unfolding zeros
mark-cleared ms ms₀ xs v e = v ∙ ap (λ (l : List ℕ). marking l xs) e

-- the marks are as many as before
pub record Marks (ms : List ℕ) (b : Bool) (w : Marked) : Type 0 where
  pub after : List ℕ
  pub is : w ≡ marked b after
  pub kept : length after ≡ length ms

marking-is : (ms xs : List ℕ) → Marks ms (newcomers ms xs) (marking ms xs)
unfolding newcomers marking
marking-is ms [] = record { after = ms; is = refl; kept = refl }
marking-is ms (x ∷ xs) = go (ltb x (length ms)) (eqb (get_or ms x 0) 0) (marking-is (set ms x 1) xs)
  where
    go : (b c : Bool) → Marks (set ms x 1) (newcomers (set ms x 1) xs) (marking (set ms x 1) xs)
        → Marks ms (pick b (pick c (newcomers (set ms x 1) xs) false) false) (pick b (pick c (marking (set ms x 1) xs) (marked false ms)) (marked false ms))
    go true true r = record { after = r.after; is = r.is; kept = r.kept ∙ length-set ms x 1 }
    go true false r = record { after = ms; is = refl; kept = refl }
    go false c r = record { after = ms; is = refl; kept = refl }

-- 1 where there is a mark
unfoldable used : List ℕ → ℕ → ℕ
used ms k = pick (eqb (get_or ms k 0) 0) 0 1

used-more : (ms : List ℕ) (x : ℕ) → x < length ms → get_or ms x 0 ≡ 0 → (k : ℕ) → used (set ms x 1) k ≡ used ms k + pick (eqb x k) 1 0
unfolding used
used-more ms x h z k = go (ℕ_discrete x k)
  where
    go : Dec (x ≡ k) → used (set ms x 1) k ≡ used ms k + pick (eqb x k) 1 0
    go (yes e) =
        subst (λ (j : ℕ). used (set ms x 1) j ≡ used ms j + pick (eqb x j) 1 0) e
        (rw (get_or-set_same ms x 1 0 h, z, eq-eqb x x refl) refl)
    go (no e) = rw (get_or-set_other ms x k 1 0 (λ q. e (sym q)), ne_eqb x k e) (omega arith)

used-most : (ms : List ℕ) (k : ℕ) → used ms k ≤ 1
unfolding used
used-most ms k = pick_all (λ (n : ℕ). n ≤ 1) (eqb (get_or ms k 0) 0) 0 1 (omega arith) (omega arith)

used-none : (n k : ℕ) → used (zeros n) k ≡ 0
unfolding used
used-none n k = rw (zeros-at n k) refl

unused : (ms : List ℕ) (k : ℕ) → used ms k ≡ 0 → get_or ms k 0 ≡ 0
unfolding used
unused ms k h = go (eqb (get_or ms k 0) 0) refl h
  where
    go : (b : Bool) → eqb (get_or ms k 0) 0 ≡ b → ◌≡◌ {A = ℕ} (pick b 0 1) 0 → get_or ms k 0 ≡ 0
    go true e q = eqb-true (get_or ms k 0) 0 e
    go false e q = absurd (omega arith)

-- none of them is too large, and none is marked twice: just then all are newcomers
new_is : (ms xs : List ℕ) → newcomers ms xs ≡ true → Each (λ (x : ℕ). x < length ms) xs × ((k : ℕ) → used ms k + tally k xs ≤ 1)
unfolding newcomers tally
new_is ms [] h = (tt, λ k. omega (arith, used-most ms k))
new_is ms (x ∷ xs) h =
    let a : (ltb x (length ms) ≡ true) × (pick (eqb (get_or ms x 0) 0) (newcomers (set ms x 1) xs) false ≡ true) = both _ _ h in
    let b : (eqb (get_or ms x 0) 0 ≡ true) × (newcomers (set ms x 1) xs ≡ true) = both _ _ a.1 in
    let r : Each (λ (y : ℕ). y < length (set ms x 1)) xs × ((k : ℕ) → used (set ms x 1) k + tally k xs ≤ 1) = new_is (set ms x 1) xs b.1 in (
      (ltb-true x (length ms) a.0, subst (λ (n : ℕ). Each (λ (y : ℕ). y < n) xs) (length-set ms x 1) r.0),
      λ k. omega (arith, r.1 k, used-more ms x (ltb-true x (length ms) a.0) (eqb-true (get_or ms x 0) 0 b.0) k),
    )

new_true : (ms xs : List ℕ) → Each (λ (x : ℕ). x < length ms) xs → ((k : ℕ) → used ms k + tally k xs ≤ 1) → newcomers ms xs ≡ true
unfolding newcomers tally
new_true ms [] e t = refl
new_true ms (x ∷ xs) e t =
    let free : get_or ms x 0 ≡ 0 = unused ms x (omega (arith, rw (eq-eqb x x refl) at (t x))) in
    rw (lt-ltb x (length ms) e.0, eq-eqb (get_or ms x 0) 0 free)
    (new_true (set ms x 1) xs (subst (λ (n : ℕ). Each (λ (y : ℕ). y < n) xs) (sym (length-set ms x 1)) e.1)
    (λ k. omega (arith, t k, used-more ms x e.0 free k)))

-- what holds of both ways round is the same test
same_test : (b c : Bool) → (b ≡ true → c ≡ true) → (c ≡ true → b ≡ true) → b ≡ c
same_test true c f g = sym (f refl)
same_test false true f g = g refl
same_test false false f g = refl

-- the law that lets the census mark and not search: a list of n numbers holds each below n once just where it meets no mark
new-once : (n : ℕ) (xs : List ℕ) → length xs ≡ n → newcomers (zeros n) xs ≡ each_once n xs
new-once n xs e =
    same_test (newcomers (zeros n) xs) (each_once n xs)
    (λ h. let r = new_is (zeros n) xs h in
    let all : Each (λ (x : ℕ). x < n) xs = subst (λ (m : ℕ). Each (λ (x : ℕ). x < m) xs) (length-zeros n) r.0 in
    once-true n xs (λ k b. full-once 0 n xs (λ i. omega (arith, r.1 i)) (total-below n xs all ∙ e) k (omega arith) (omega arith)))
    (λ h. let r = once-most n xs h e in
    new_true (zeros n) xs (subst (λ (m : ℕ). Each (λ (x : ℕ). x < m) xs) (sym (length-zeros n)) r.0)
    (λ k. omega (arith, used-none n k, r.1 k)))

-- the same as the code has it
pub marking-once : (n : ℕ) (xs : List ℕ) → length xs ≡ n → Marks (zeros n) (each_once n xs) (marking (zeros n) xs)
marking-once n xs e = rw (← (new-once n xs e)) (marking-is (zeros n) xs)
