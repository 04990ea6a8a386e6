-- Laws that the proofs of this crate cite: what each way out of a function comes to.
use mathlib.Core.Path.{◌≡◌, refl, sym, ap, ◌∙◌}
use mathlib.Core.Bool.{Bool, true, false}
use mathlib.Core.List.{List, [], ◌∷◌, ◌++◌, append_assoc, append-nil}
use Prim.Native.Nat.{ℕ, ◌+◌, ◌*◌, ◌%◌}
use native.Mathlib.Omega.{arith}
use lib.ListN.{length, drop, drop_of_length-le}
use borrow.Author.Tests.{eq-eqb, ne_eqb}
use Rattle.rules.specs.Bytes.{byte_at, word_at, part, over, one}
use Rattle.rules.specs.Stores.{stored, Put, puts, put}
use Rattle.rules.specs.Image.{index, is_data}
use Rattle.std.specs.Prelude.{Result, Ok, Err}
use Rattle.rules.specs.declared.NoSlot.{NoSlot}
use Rattle.rules.specs.declared.NoSlot.TheVariants.{Missing, Broken}
use Rattle.rules.specs.Refusals.{code, number_of}
use Rattle.rules.specs.declared.refusal.Refusal.{Refusal}
use Rattle.rules.specs.Outcome.{Outcome, refuse, done, and_then, Out, out, left, settled}
use Rattle.rules.specs.Block.{index_field, buffer_field, activity_in, position_in, start_in, index_in}
use Rattle.rules.specs.Transfer.{next_to_read, load_puts, load, reading, slot_in, take_sector, sent, fill, writing, shut, mark, close_writing, close}
use Rattle.laws.specs.Bytes.{over-append, over-again, length-one, length_part, part_join}
use Rattle.laws.specs.Refusals.{code-some}
use Rattle.laws.specs.Stores.{puts-append}
use Rattle.taking.specs.Take.{taken}
use Rattle.taking.specs.Promises.{Numbered, numbered, take-numbered}
use Rattle.transfer.specs.Close.{close_empty, close_partial}

-- ---- reading

module _ (tab : List ℕ) (f : ℕ) {p : ℕ} (e : p ≡ position_in tab f) where
  pub next_start : {r : ℕ} → p ≡ 0 → r ≡ start_in tab f → r ≡ next_to_read tab f
  unfolding next_to_read
  next_start h k = rw (← e, eq-eqb p 0 h) k

  pub next-link : {r : ℕ} → (p ≡ 0 → ⊥) → r ≡ word_at tab (f + buffer_field) → r ≡ next_to_read tab f
  unfolding next_to_read
  next-link h k = rw (← e, ne_eqb p 0 h) k

module _ (img tab : List ℕ) (M S f a : ℕ) where
  pub load-end : {r x : Refusal} {tab' : List ℕ} → a ≡ 0 → r ≡ x → tab' ≡ over tab (f + 1) (one (code x)) → code x ≡ 8 → out (code r) 0 img tab' ≡ left img tab f (settled (load img M S a))
  unfolding load
  load-end h k d z = rw (eq-eqb a 0 h, k, d, z) refl

  module _ {v : Bool} (h : a ≡ 0 → ⊥) (q : v ≡ is_data M S a) where
    pub load-bad : {r x : Refusal} {tab' : List ℕ} → v ≡ false → r ≡ x → tab' ≡ over tab (f + 1) (one (code x)) → code x ≡ 9 → out (code r) 0 img tab' ≡ left img tab f (settled (load img M S a))
    unfolding load
    load-bad l k d z = rw (ne_eqb a 0 h, ← q, l, k, d, z) refl

    pub load-done : {k b : ℕ} {tab' : List ℕ} → v ≡ true → k ≡ index S a → b ≡ byte_at img (256 * k + 4) → tab' ≡ puts tab f (load_puts img a k ++ put 1 (one 0) ∷ [])
        → out 0 b img tab' ≡ left img tab f (settled (load img M S a))
    unfolding load
    load-done l m k d = rw (ne_eqb a 0 h, ← q, l, ← m, k, d) refl

module _ (img tab : List ℕ) (M S f : ℕ) {i : ℕ} (e : i ≡ index_in tab f) where
  pub read-load : {a : ℕ} {o : Out} → i ≡ 0 → a ≡ next_to_read tab f → o ≡ left img tab f (settled (load img M S a)) → o ≡ left img tab f (settled (reading img tab M S f))
  unfolding reading
  read-load h k d = rw (← e, eq-eqb i 0 h, ← k) d

  pub read-on : {b : ℕ} {tab' : List ℕ} → (i ≡ 0 → ⊥) → b ≡ byte_at tab (f + (buffer_field + i)) → tab' ≡ puts tab f (put index_field (one ((i + 1) % 256)) ∷ put 1 (one 0) ∷ [])
      → out 0 b img tab' ≡ left img tab f (settled (reading img tab M S f))
  unfolding reading
  read-on h k d = rw (← e, ne_eqb i 0 h, k, d) refl

-- ---- writing

-- after a sector was asked for, i and t are image and table, r is the answer
module _ (img tab : List ℕ) (f : ℕ) (qs : List Put) {r : ℕ} {i t t' : List ℕ} where
  refused-first : (o : Outcome) → out r 0 i t ≡ left img tab f (taken o) → (r ≡ 0 → ⊥) → t' ≡ over t (f + 1) (one r)
      → out r 0 i t' ≡ left img tab f (settled (and_then o qs))
  refused-first (refuse e) k h d = cc
  refused-first (done b ss ps) k h d = absurd (h (cc))

  done_first : (o : Outcome) → Numbered o → out r 0 i t ≡ left img tab f (taken o) → r ≡ 0 → t' ≡ puts t f (qs ++ put 1 (one 0) ∷ [])
      → out 0 0 i t' ≡ left img tab f (settled (and_then o qs))
  done_first (refuse e) (numbered _ n) k h d = let z : e ≡ 0 = cc in absurd (omega arith)
  done_first (done b ss ps) n k h d = rw (append_assoc ps qs, puts-append ps (qs ++ put 1 (one 0) ∷ [])) cc

module _ (img tab : List ℕ) (M S f b : ℕ) {A : Type 0} {r : Result A Refusal} {i t t' : List ℕ} (k : out (number_of r) 0 i t ≡ left img tab f (taken (take_sector img tab M S f))) where
  pub first-refused : {e x : Refusal} → r ≡ Err e → x ≡ e → t' ≡ over t (f + 1) (one (code e)) → out (code x) 0 i t' ≡ left img tab f (settled (and_then (take_sector img tab M S f) (sent 4 b)))
  first-refused {e} h q d =
      let z : code e ≡ 0 → ⊥ = λ n. absurd (omega (arith, code-some e, n)) in
      rw q (refused-first img tab f (sent 4 b) (take_sector img tab M S f) (sym (ap (λ (x : Result A Refusal). out (number_of x) 0 i t) h) ∙ k) z d)

  pub first_done : {u : A} → r ≡ Ok u → t' ≡ puts t f (sent 4 b ++ put 1 (one 0) ∷ []) → out 0 0 i t' ≡ left img tab f (settled (and_then (take_sector img tab M S f) (sent 4 b)))
  first_done h d =
      done_first img tab f (sent 4 b) (take_sector img tab M S f) (take-numbered img tab M S f) (sym (ap (λ (x : Result A Refusal). out (number_of x) 0 i t) h) ∙ k) refl d

-- the data of a sector stored, then its last byte over the one that stood in the buffer
last-again : (m tab : List ℕ) (at from b : ℕ) → over (over m at (part tab from 252)) (at + 251) (one b) ≡ over m at (part tab from 251 ++ one b)
last-again m tab at from b =
    ap (λ (x : List ℕ). over (over m at x) (at + 251) (one b)) (sym (part_join tab 251 1 from (from + 251) (omega arith)))
    ∙ ap (λ (x : List ℕ). over x (at + 251) (one b)) (behind (part tab (from + 251) 1))
    ∙ over-again (over m at (part tab from 251)) (part tab (from + 251) 1) (one b) (at + 251) (omega (arith, length-one b, l))
    ∙ ap (over (over m at (part tab from 251)) (at + 251)) (ap (λ (x : List ℕ). one b ++ x) rest ∙ append-nil (one b))
    ∙ sym (behind (one b))
  where
    l : length (part tab (from + 251) 1) ≡ 1
    l = length_part tab (from + 251) 1

    rest : drop (length (one b)) (part tab (from + 251) 1) ≡ []
    rest = drop_of_length-le (part tab (from + 251) 1) {i = length (one b)} (omega (arith, length-one b, l))

    behind : (vs : List ℕ) → over m at (part tab from 251 ++ vs) ≡ over (over m at (part tab from 251)) (at + 251) vs
    behind vs = over-append m at (part tab from 251) vs ∙ ap (λ (n : ℕ). over (over m at (part tab from 251)) (at + n) vs) (length_part tab from 251)

pub data-full : (img tab : List ℕ) (S f a b : ℕ) {k : ℕ} {i i' : List ℕ} → i' ≡ over i (256 * k + 255) (one b) → i ≡ over img (256 * k + 4) (part tab (f + 68) 252)
    → k ≡ index S a → i' ≡ over img (256 * index S a + 4) (part tab (f + (buffer_field + 4)) 251 ++ one b)
data-full img tab S f a b {k} {i} p q e =
    let n : 256 * k + 255 ≡ 256 * k + 4 + 251 = omega arith in
    p ∙ ap (λ (x : ℕ). over i x (one b)) n
    ∙ ap (λ (x : List ℕ). over x (256 * k + 4 + 251) (one b)) q
    ∙ last-again img tab (256 * k + 4) (f + 68) b
    ∙ ap (λ (x : ℕ). over img (256 * x + 4) (part tab (f + 68) 251 ++ one b)) e

module _ (img tab : List ℕ) (M S f b : ℕ) {a : ℕ} {v : Bool} (p : a ≡ position_in tab f) (q : v ≡ is_data M S a) where
  pub fill-bad : {r x : Refusal} {t : List ℕ} → v ≡ false → r ≡ x → t ≡ over tab (f + 1) (one (code x)) → code x ≡ 10 → out (code r) 0 img t ≡ left img tab f (settled (fill tab M S f b))
  unfolding fill
  fill-bad h k d z = rw (← p, ← q, h, k, d, z) refl

  pub fill_done : {i t : List ℕ} → v ≡ true → i ≡ over img (256 * index S a + 4) (part tab (f + (buffer_field + 4)) 251 ++ one b)
      → t ≡ puts tab f (sent 255 b ++ put 1 (one 0) ∷ []) → out 0 0 i t ≡ left img tab f (settled (fill tab M S f b))
  unfolding fill
  fill_done h k d = rw (← p, ← q, h, k, d) refl

module _ (img tab : List ℕ) (M S f b : ℕ) {i : ℕ} (e : i ≡ index_in tab f) where
  pub write-takes : {o : Out} → i ≡ 0 → o ≡ left img tab f (settled (and_then (take_sector img tab M S f) (sent 4 b))) → o ≡ left img tab f (settled (writing img tab M S f b))
  unfolding writing
  write-takes h k = rw (← e, eq-eqb i 0 h) k

  pub write-fills : {o : Out} → i ≡ 255 → o ≡ left img tab f (settled (fill tab M S f b)) → o ≡ left img tab f (settled (writing img tab M S f b))
  unfolding writing
  write-fills h k = rw (← e, h) k

  pub write-on : {t : List ℕ} → (i ≡ 0 → ⊥) → (i ≡ 255 → ⊥) → t ≡ puts tab f (sent i b ++ put 1 (one 0) ∷ []) → out 0 0 img t ≡ left img tab f (settled (writing img tab M S f b))
  unfolding writing
  write-on g h k = rw (← e, ne_eqb i 0 g, ne_eqb i 255 h, k) refl

-- ---- close

module _ (img tab : List ℕ) (M S f : ℕ) {found : Result ℕ NoSlot} (e : found ≡ slot_in img tab M S f) where
  pub empty-at : {i t : List ℕ} {slot : ℕ} → found ≡ Ok slot → i ≡ stored img (mark slot) → t ≡ puts tab f (shut ++ put 1 (one 0) ∷ [])
      → out 0 0 i t ≡ left img tab f (settled (close_empty img tab M S f))
  empty-at h k d = rw (← e, h, k, d) refl

  pub empty-none : {n : NoSlot} {r x : Refusal} {t : List ℕ} → found ≡ Err n → r ≡ x → t ≡ over tab (f + 1) (one (code x)) → code x ≡ 5 → out (code r) 0 img t ≡ left img tab f (settled (close_empty img tab M S f))
  empty-none {n = Missing} h k d z = rw (← e, h, k, d, z) refl
  empty-none {n = Broken} h k d z = rw (← e, h, k, d, z) refl

module _ (img tab : List ℕ) (M S f a : ℕ) {v : Bool} (q : v ≡ is_data M S a) where
  pub partial-bad : {r x : Refusal} {t : List ℕ} → v ≡ false → r ≡ x → t ≡ over tab (f + 1) (one (code x)) → code x ≡ 10 → out (code r) 0 img t ≡ left img tab f (settled (close_partial tab M S f a))
  partial-bad h k d z = rw (← q, h, k, d, z) refl

  pub partial-done : {k : ℕ} {i t : List ℕ} → v ≡ true → k ≡ index S a → i ≡ over img (256 * k + 4) (part tab (f + 68) 252)
      → t ≡ puts tab f (shut ++ put 1 (one 0) ∷ []) → out 0 0 i t ≡ left img tab f (settled (close_partial tab M S f a))
  partial-done h l k d = rw (← q, h, ← l, k, d) refl

module _ (img tab : List ℕ) (M S f : ℕ) {a : ℕ} (p : a ≡ position_in tab f) where
  pub closes-empty : {o : Out} → a ≡ 0 → o ≡ left img tab f (settled (close_empty img tab M S f)) → o ≡ left img tab f (settled (close_writing img tab M S f))
  unfolding close_writing
  closes-empty h k = rw (← p, eq-eqb a 0 h) k

  module _ {i : ℕ} (h : a ≡ 0 → ⊥) (q : i ≡ index_in tab f) where
    pub closes-full : {t : List ℕ} → i ≡ 0 → t ≡ puts tab f (shut ++ put 1 (one 0) ∷ []) → out 0 0 img t ≡ left img tab f (settled (close_writing img tab M S f))
    unfolding close_writing
    closes-full g k = rw (← p, ne_eqb a 0 h, ← q, eq-eqb i 0 g, k) refl

    pub closes-partial : {o : Out} → (i ≡ 0 → ⊥) → o ≡ left img tab f (settled (close_partial tab M S f a)) → o ≡ left img tab f (settled (close_writing img tab M S f))
    unfolding close_writing
    closes-partial g k = rw (← p, ne_eqb a 0 h, ← q, ne_eqb i 0 g) k

module _ (img tab : List ℕ) (M S f : ℕ) {v : ℕ} (p : v ≡ activity_in tab f) where
  pub closes-writing : {o : Out} → v ≡ 2 → o ≡ left img tab f (settled (close_writing img tab M S f)) → o ≡ left img tab f (settled (close img tab M S f))
  unfolding close
  closes-writing h k = rw (← p, eq-eqb v 2 h) k

  pub closes-other : {t : List ℕ} → (v ≡ 2 → ⊥) → t ≡ puts tab f (shut ++ put 1 (one 0) ∷ []) → out 0 0 img t ≡ left img tab f (settled (close img tab M S f))
  unfolding close
  closes-other h k = rw (← p, ne_eqb v 2 h, k) refl
