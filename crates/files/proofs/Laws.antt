-- Ways through the functions of this crate that the general laws of tests (laws.Settled) do not cover: what each leaves where no
-- test refuses it, and tests on what was loaded before. Of what the code has, r is an answer, v a test's result, i an image, t a table.
use mathlib.Core.Path.{◌≡◌, refl, sym, ap, ◌∙◌}
use mathlib.Core.Bool.{Bool, true, false, ◌&&◌}
use mathlib.Core.List.{List, [], ◌∷◌}
use Prim.Native.Nat.{ℕ, ◌+◌, ◌*◌, ◌≤◌, ◌<◌}
use native.Mathlib.Nat.{add-zero}
use lib.ListN.{length}
use lib.Dec.{eqb, ltb}
use lib.Pointwise.{pointwise}
use borrow.Author.Tests.{lt-ltb, le-ltb}
use Rattle.rules.specs.Bytes.{pick, word_at, part, over, one, zeros, same}
use Rattle.rules.specs.Stores.{stored, puts}
use Rattle.rules.specs.Image.{index, is_sector, first_free}
use Rattle.rules.specs.Directory.{most_of_directory, first_slot_of, place_of, slot_behind, directory, last_sector, slots, attributes_at}
use Rattle.rules.specs.Refusals.{code}
use Rattle.rules.specs.declared.refusal.Refusal.{Refusal}
use Rattle.rules.specs.declared.refusal.Refusal.TheVariants.{BadWrite}
use Rattle.rules.specs.Outcome.{Outcome, done, unless, on_slot, or_else, Out, out, settled, left}
use Rattle.rules.specs.Block.{place_in, in_use}
use Rattle.rules.specs.Transfer.{off_free, slot_in, linked}
use Rattle.rules.specs.Files.{read_protected, opened, new_entry, grow_stores, grow, shown, next_slot, read_sector}
use Rattle.std.specs.Prelude.{Result, Ok, Err}
use Rattle.rules.specs.declared.NoSlot.{NoSlot}
use Rattle.rules.specs.declared.NoSlot.TheVariants.{Missing, Broken}
use Rattle.laws.specs.Tests.{clash}
use Rattle.laws.specs.Slots.{placed-is}
use Rattle.laws.specs.Visits.{behind-step}
use Rattle.laws.specs.Walk.{slot-begins}
use Rattle.directory.specs.declared.Extent.{Extent}
use Rattle.directory.specs.Extents.{extent_of}
use Rattle.entries.specs.Entries.{new_of, bytes_of, new-bytes}
use Rattle.entries.specs.declared.Entry.{Entry}
use Rattle.taking.specs.Take.{free_sector, on_ok, on-sector, sector-is}
use Rattle.files.specs.Parts.{opening, open_read_at, open_write_at, add_stores, if_ok, growth, first_slot, slot_after, further_slot, renamed}

-- ---- open

pub read_opened : (img tab : List ℕ) (S f slot : ℕ) {u v : Bool} {t t' : List ℕ} → u ≡ read_protected (attributes_at img slot) → u ≡ false
    → v ≡ in_use false tab (place_of S slot) → v ≡ false
    → t ≡ over tab (f + 4) (part img slot 24) → t' ≡ puts t f (opening S 1 slot) → out 0 0 img t' ≡ left img tab f (settled (open_read_at img tab S slot))
unfolding open_read_at opened opening
read_opened img tab S f slot d g e h p q = rw (← d, g, ← e, h, q, p) refl

pub write-opened : (img tab : List ℕ) (S f slot : ℕ) {entry : Entry} {i t t' : List ℕ} → entry ≡ new_of tab f → i ≡ over img slot (bytes_of entry)
    → t ≡ over tab (f + 4) (bytes_of entry) → t' ≡ puts t f (opening S 2 slot) → out 0 0 i t' ≡ left img tab f (settled (open_write_at tab S f slot))
unfolding open_write_at opened opening
write-opened img tab S f slot e p q d = rw (d, q, p, e, new-bytes, slot-begins) refl

-- a slot, or what is done where there is none
module _ (img tab : List ℕ) (f : ℕ) (next : ℕ → Outcome) (other : Outcome) (l : Result ℕ NoSlot) (broken : ℕ) {v : Result ℕ NoSlot} (p : v ≡ l) where
  pub else-slot : {slot : ℕ} {o : Out} → v ≡ Ok slot → o ≡ left img tab f (settled (next slot)) → o ≡ left img tab f (settled (or_else l broken other next))
  else-slot h q = rw (← p, h) q

  pub else-other : {n : NoSlot} {o : Out} → v ≡ Err n → n ≡ Missing → o ≡ left img tab f (settled other) → o ≡ left img tab f (settled (or_else l broken other next))
  else-other h m q = rw (← p, h, m) q

  pub else-broken : {n : NoSlot} {r x : Refusal} {t : List ℕ} → v ≡ Err n → n ≡ Broken → r ≡ x → t ≡ over tab (f + 1) (one (code x)) → code x ≡ broken → out (code r) 0 img t ≡ left img tab f (settled (or_else l broken other next))
  else-broken h m q d z = rw (← p, h, m, q, d, z) refl

-- ---- the directory grows

pub sector-added : (img : List ℕ) (S end new : ℕ) {k : ℕ} {i i' i'' : List ℕ} → k ≡ index S new → i ≡ stored img (off_free img S ∷ [])
    → i' ≡ over i (256 * k) (zeros 256) → i'' ≡ stored i' (linked false end new) → i'' ≡ stored img (add_stores img S end new)
unfolding add_stores off_free linked
sector-added img S end new e p q d = rw (d, q, p, e, add-zero (256 * index S new), add-zero (256 * end)) refl

module _ (img : List ℕ) (M S n : ℕ) {r : Result ℕ Refusal} (e : r ≡ free_sector img M S) where
  pub growth-none : {x : Refusal} → r ≡ Err x → Err x ≡ growth img M S n
  unfolding growth
  growth-none h = rw (← e, h) refl

  module _ {new m : ℕ} (h : r ≡ Ok new) (q : m ≡ most_of_directory M S) where
    pub growth-by : n < m → Ok new ≡ growth img M S n
    unfolding growth
    growth-by l = rw (← e, h, ← q, lt-ltb n m l) refl

    pub growth-longest : m ≤ n → Err BadWrite ≡ growth img M S n
    unfolding growth
    growth-longest l = rw (← e, h, ← q, le-ltb n m l) refl

-- the rule's tests, as one
grow-is : (img tab : List ℕ) (M S f : ℕ)
    → grow img tab M S f
    ≡ on_ok (growth img M S (length (directory img M S))) (λ new. done 0 (grow_stores img tab M S f) (opened S 2 (first_slot_of (index S new)) (new_entry tab f)))
unfolding grow growth
grow-is img tab M S f =
    on-sector img M S (λ new. unless (ltb (length (directory img M S)) (most_of_directory M S)) 10 (last new))
    ∙ go (free_sector img M S) (ltb (length (directory img M S)) (most_of_directory M S))
  where
    last : ℕ → Outcome
    last new = done 0 (grow_stores img tab M S f) (opened S 2 (first_slot_of (index S new)) (new_entry tab f))

    go : (r : Result ℕ Refusal) (b : Bool) → on_ok r (λ new. unless b 10 (last new)) ≡ on_ok (if_ok r (λ new. pick b (Ok new) (Err BadWrite))) last
    go (Ok a) true = refl
    go (Ok a) false = refl
    go (Err x) b = refl

-- the sector that it grows by is the first free one
growth-is : (img : List ℕ) (M S n : ℕ) {new : ℕ} → growth img M S n ≡ Ok new → first_free img ≡ new
unfolding growth
growth-is img M S n {new} = go (free_sector img M S) refl (ltb n (most_of_directory M S))
  where
    go : (r : Result ℕ Refusal) → free_sector img M S ≡ r → (b : Bool) → if_ok r (λ a. pick b (Ok a) (Err BadWrite)) ≡ Ok new → first_free img ≡ new
    go (Ok a) e true h = sector-is img M S e ∙ (let same : a ≡ new = cc in same)
    go (Ok a) e false h = clash (cc)
    go (Err x) e b h = clash (cc)

module _ (img tab : List ℕ) (M S f : ℕ) {x : Extent} {r : Result ℕ Refusal} (p : x ≡ extent_of img M S) (e : r ≡ growth img M S x.sectors) where
  count-is : length (directory img M S) ≡ x.sectors
  unfolding extent_of
  count-is = ap (λ (y : Extent). y.sectors) (sym p)

  end_is : last_sector img M S ≡ x.end
  unfolding extent_of
  end_is = ap (λ (y : Extent). y.end) (sym p)

  pub grow-refused : {y z : Refusal} {t : List ℕ} → r ≡ Err y → z ≡ y → t ≡ over tab (f + 1) (one (code y)) → out (code z) 0 img t ≡ left img tab f (settled (grow img tab M S f))
  grow-refused h q d = rw (grow-is img tab M S f, count-is, ← e, h, q, d) refl

  pub grow-done : {new k : ℕ} {i : List ℕ} {o : Out} → r ≡ Ok new → k ≡ index S new
      → i ≡ stored img (add_stores img S x.end new) → o ≡ left i tab f (settled (open_write_at tab S f (256 * k + 16)))
      → o ≡ left img tab f (settled (grow img tab M S f))
  unfolding grow_stores add_stores off_free open_write_at
  grow-done {new} h a b d =
      let first : first_free img ≡ new = growth-is img M S x.sectors (sym e ∙ h) in
      rw (grow-is img tab M S f, count-is, ← e, h, end_is, first)
      (d ∙ rw (a, slot-begins, b, first) refl)

-- ---- next slot

-- what `==` finds of two arrays
same-bytes : (xs ys : List ℕ) → pointwise eqb xs ys ≡ same xs ys
unfolding same
same-bytes [] [] = refl
same-bytes [] (y ∷ ys) = refl
same-bytes (x ∷ xs) [] = refl
same-bytes (x ∷ xs) (y ∷ ys) = go (eqb x y) (same-bytes xs ys)
  where
    go : (b : Bool) → pointwise eqb xs ys ≡ same xs ys → (b && pointwise eqb xs ys) ≡ pick b (same xs ys) false
    go true e = e
    go false e = refl

pub no-place : (tab : List ℕ) (at : ℕ) {v : Bool} {place : List ℕ} → place ≡ part tab at 3 → v ≡ pointwise eqb place (0 ∷ 0 ∷ 0 ∷ []) → v ≡ same (part tab at 3) (zeros 3)
unfolding zeros
no-place tab at e d = rw (d, e) (same-bytes (part tab at 3) (0 ∷ 0 ∷ 0 ∷ []))

-- the slot behind the place's, by a step
further-is : (img tab : List ℕ) (M S f : ℕ)
    → on_slot (slot_in img tab M S f) 5 5 (λ slot. on_slot (slot_behind slot (slots img M S)) 5 8 (λ next. shown img S next)) ≡ further_slot img tab M S f
unfolding further_slot slot_after
further-is img tab M S f = go (slot_in img tab M S f) refl
  where
    go : (l : Result ℕ NoSlot) → slot_in img tab M S f ≡ l
        → on_slot l 5 5 (λ slot. on_slot (slot_behind slot (slots img M S)) 5 8 (λ next. shown img S next)) ≡ on_slot l 5 5 (slot_after img M S)
    go (Ok o) e = ap (λ (x : Result ℕ NoSlot). on_slot x 5 8 (λ next. shown img S next)) (behind-step img M S o (placed-is img M S (place_in tab f) o e).0)
    go (Err Missing) e = refl
    go (Err Broken) e = refl

module _ (img tab : List ℕ) (M S f : ℕ) {v : Bool} {o : Out} (e : v ≡ same (part tab (f + 47) 3) (zeros 3)) where
  pub next-first : v ≡ true → o ≡ left img tab f (settled (first_slot img M S)) → o ≡ left img tab f (settled (next_slot img tab M S f))
  unfolding next_slot first_slot
  next-first h q = rw (← e, h) q

  pub next-further : v ≡ false → o ≡ left img tab f (settled (further_slot img tab M S f)) → o ≡ left img tab f (settled (next_slot img tab M S f))
  unfolding next_slot
  next-further h q = rw (← e, h) (q ∙ ap (λ (x : Outcome). left img tab f (settled x)) (sym (further-is img tab M S f)))

-- ---- read sector

module _ (img tab : List ℕ) (M S f : ℕ) {v : Bool} {a : ℕ} (e : a ≡ word_at tab (f + 30)) (g : v ≡ is_sector M S a) where
  pub sector-read : {k : ℕ} {t t' : List ℕ} → v ≡ true → k ≡ index S a → t ≡ over tab (f + 64) (part img (256 * k) 256) → t' ≡ over t (f + 1) (one 0)
      → out 0 0 img t' ≡ left img tab f (settled (read_sector img tab M S f))
  unfolding read_sector
  sector-read h q p d = rw (← e, ← g, h, d, p, q) refl

-- ---- rename

pub name-stored : (img tab : List ℕ) (f slot : ℕ) {name i t t' : List ℕ} → name ≡ part tab (f + 53) 11 → i ≡ over img slot name → t ≡ over tab (f + 4) name
    → t' ≡ over t (f + 1) (one 0) → out 0 0 i t' ≡ left img tab f (settled (renamed tab f slot))
unfolding renamed
name-stored img tab f slot e p q d = rw (d, q, p, e, slot-begins) refl
