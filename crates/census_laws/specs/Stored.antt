-- Runs of numbers stored in an output, one behind the other.
use Rattle.std.specs.Prelude.{◌≡◌, List, ◌∷◌, ◌++◌, ℕ, ◌+◌, ◌-◌, ◌≤◌, ◌<◌, get_or, set, take, drop, replicate}
use Rattle.std.proofs.Math.Path.{refl}
use Rattle.std.proofs.Common.{sym, ap, ◌∙◌, add-one, arith, take-append-drop, take_all}
use Rattle.std.proofs.Math.ListN.{length}
use Rattle.std.proofs.lemmas.List.{length-replicate, get_or-replicate}
use Rattle.std.proofs.Math.Seq.{take-suc, length-take-le}
use Rattle.rules.specs.Bytes.{over, one}
use Rattle.laws.specs.Bytes.{over-append, over-one, over-out, length_over}
use Rattle.laws.specs.Lent.{over-exact}

-- a number, and the others behind it
pub over-cons : (m : List ℕ) (at v : ℕ) (vs : List ℕ) → over m at (v ∷ vs) ≡ over (over m at (one v)) (at + 1) vs
unfolding one
over-cons m at v vs = over-append m at (one v) vs

-- ---- a loop that stores vs from a place on, one by one: d is the list after i of them

over-more : (m vs d : List ℕ) (at i : ℕ) → d ≡ over m at (take i vs) → i < length vs → set d (at + i) (get_or vs i 0) ≡ over m at (take (i + 1) vs)
over-more m vs d at i e h =
    let t : take (i + 1) vs ≡ take i vs ++ one (get_or vs i 0) = rw add-one (unfold one in take-suc vs i 0 h) in
    let l : length (take i vs) ≡ i = length-take-le i vs (omega arith) in
    rw (t, over-append m at (take i vs) (one (get_or vs i 0)), l, over-one (over m at (take i vs)) (at + i) (get_or vs i 0), e) refl

-- the rest lies past the end
over-full : (m vs d : List ℕ) (at i : ℕ) → d ≡ over m at (take i vs) → i < length vs → length m ≤ at + i → d ≡ over m at vs
over-full m vs d at i e h l = rest (take-append-drop i vs) (length-take-le i vs (omega arith))
  where
    rest : take i vs ++ drop i vs ≡ vs → length (take i vs) ≡ i → d ≡ over m at vs
    rest t k =
        e
        ∙ sym (over-out (over m at (take i vs)) (at + length (take i vs)) (drop i vs) (rw (length_over, k) l))
        ∙ sym (over-append m at (take i vs) (drop i vs))
        ∙ ap (over m at) t

over-all : (m vs d : List ℕ) (at i : ℕ) → d ≡ over m at (take i vs) → length vs ≤ i → d ≡ over m at vs
over-all m vs d at i e h = e ∙ ap (over m at) (take_all i vs h)

-- the same where vs is one number n times
module _ (m d : List ℕ) (at n i v : ℕ) (e : d ≡ over m at (take i (replicate n v))) where
  pub run_more : i < n → set d (at + i) v ≡ over m at (take (i + 1) (replicate n v))
  run_more h =
      ap (λ (x : ℕ). set d (at + i) x) (sym (get_or-replicate n i v 0 h))
      ∙ over-more m (replicate n v) d at i e (rw length-replicate h)

  pub run-full : i < n → length d ≡ length m → length d - at ≤ i → d ≡ over m at (replicate n v)
  run-full h l k = over-full m (replicate n v) d at i e (rw length-replicate h) (omega arith)

  pub run-all : n ≤ i → d ≡ over m at (replicate n v)
  run-all h = over-all m (replicate n v) d at i e (rw length-replicate h)

-- all of an output
pub run-whole : (m d : List ℕ) (v : ℕ) → d ≡ over m 0 (replicate (length m) v) → d ≡ replicate (length m) v
run-whole m d v e = e ∙ over-exact m (replicate (length m) v) (length-replicate (length m) v)

-- an output keeps its length
pub over-kept : (m₀ m d : List ℕ) (at : ℕ) (vs : List ℕ) → d ≡ over m at vs → length m ≡ length m₀ → length d ≡ length m₀
over-kept m₀ m d at vs e k = ap length e ∙ length_over m at vs ∙ k
