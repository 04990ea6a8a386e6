-- The ways through delete's last part. Of what the code has, r is an answer, v a test's result, i an image, t a table.
use mathlib.Core.Path.{◌≡◌, refl, sym, ap, ◌∙◌}
use mathlib.Core.Bool.{Bool, true, false}
use mathlib.Core.List.{List, [], ◌∷◌, ◌++◌}
use Prim.Native.Nat.{ℕ, ◌+◌, ◌≤◌, ◌<◌}
use native.Mathlib.Omega.{arith}
use Rattle.std.proofs.Math.Decide.{dec_lt}
use lib.Dec.{eqb, leb, ltb}
use borrow.Author.Tests.{ltb-false, ne_eqb, lt-ltb, le-ltb, le-leb, lt-leb}
use Rattle.rules.specs.Bytes.{pick, word_at, part, over, one, six}
use Rattle.rules.specs.Stores.{stored, put, puts}
use Rattle.rules.specs.Image.{index, is_data}
use Rattle.rules.specs.Refusals.{code}
use Rattle.rules.specs.declared.refusal.Refusal.{Refusal}
use Rattle.rules.specs.Outcome.{Outcome, done, unless, when, out, settled, left}
use Rattle.rules.specs.Transfer.{linked, mark}
use Rattle.rules.specs.Files.{hang_stores, gone, remove}
use Rattle.laws.specs.Bytes.{over-append}
use Rattle.laws.specs.Stores.{stored-append}
use Rattle.disk.specs.Loaded.{free_of}
use Rattle.disk.specs.declared.Free.{Free}
use Rattle.entries.specs.Entries.{entry_of}
use Rattle.entries.specs.declared.Entry.{Entry}
use Rattle.removal.specs.Hanging.{is_end, may_hang}

pub marked-shown : (img tab : List ℕ) (f slot : ℕ) {t t' t'' : List ℕ} → t ≡ over tab (f + 4) (one 255) → t' ≡ over t (f + 4 + 1) (part img (slot + 1) 23)
    → t'' ≡ over t' (f + 1) (one 0) → t'' ≡ puts tab f (gone img slot ++ put 1 (one 0) ∷ [])
unfolding gone one
marked-shown img tab f slot p q d = rw (d, q, p, over-append tab (f + 4) (one 255) (part img (slot + 1) 23)) refl

pub small : (n : ℕ) → leb n 65535 ≡ pick (ltb 65535 n) false true
small n = go (dec_lt 65535 n)
  where
    go : Dec (65535 < n) → leb n 65535 ≡ pick (ltb 65535 n) false true
    go (yes h) = rw (lt-leb n 65535 h, lt-ltb 65535 n h) refl
    go (no h) = rw (le-leb n 65535 (omega arith), le-ltb 65535 n (omega arith)) refl

sum_fits : (a b c d : Bool) (n : ℕ) → ltb 65535 n ≡ d → true ≡ pick a (pick b (pick c (pick d false true) false) false) false → n ≤ 65535
sum_fits true true true false n e h = ltb-false 65535 n e
sum_fits true true true true n e h = let z : ◌≡◌ {A = ℕ} 0 1 = cc in omega arith
sum_fits true true false d n e h = let z : ◌≡◌ {A = ℕ} 0 1 = cc in omega arith
sum_fits true false c d n e h = let z : ◌≡◌ {A = ℕ} 0 1 = cc in omega arith
sum_fits false b c d n e h = let z : ◌≡◌ {A = ℕ} 0 1 = cc in omega arith

pub hang-fits : (M S : ℕ) (entry : Entry) (free : Free) {v : Bool} → v ≡ may_hang M S entry free → v ≡ true → free.count + entry.size ≤ 65535
unfolding may_hang
hang-fits M S entry free e h =
    sum_fits (is_data M S entry.start) (is_data M S entry.end) (is_end M S free) (ltb 65535 (free.count + entry.size)) (free.count + entry.size)
    refl (sym h ∙ e)

pub hung : (img : List ℕ) (S slot : ℕ) (entry : Entry) (free : Free) {k head : ℕ} {i i' i'' : List ℕ} → k ≡ index S free.last
    → head ≡ pick (eqb free.count 0) entry.start free.first → i ≡ stored img (linked (eqb free.count 0) k entry.start)
    → i' ≡ over i 541 (six head entry.end (free.count + entry.size)) → i'' ≡ stored i' (mark slot)
    → i'' ≡ stored img (hang_stores S slot free.count free.first free.last entry.start entry.end entry.size)
unfolding hang_stores
hung img S slot entry free a b p q d = rw (stored-append, d, q, p, a, b) refl

-- four tests with one number are one
gathered : (a b c d : Bool) (o : Outcome) → unless a 9 (unless b 9 (unless c 9 (when d 9 o))) ≡ unless (pick a (pick b (pick c (pick d false true) false) false) false) 9 o
gathered false b c d o = refl
gathered true false c d o = refl
gathered true true false d o = refl
gathered true true true false o = refl
gathered true true true true o = refl

module _ (img tab : List ℕ) (M S f slot : ℕ) {entry : Entry} (e : entry ≡ entry_of img slot) where
  pub removed-empty : {i t : List ℕ} → entry.size ≡ 0 → t ≡ puts tab f (gone img slot ++ put 1 (one 0) ∷ []) → i ≡ stored img (mark slot)
      → out 0 0 i t ≡ left img tab f (settled (remove img M S slot))
  unfolding remove entry_of
  removed-empty h p q =
      let s : word_at img (slot + 17) ≡ 0 = ap (λ (x : Entry). x.size) (sym e) ∙ h in
      rw (s, p, q) refl

  module _ {free : Free} (g : free ≡ free_of img) (h : entry.size ≡ 0 → ⊥) {v : Bool} (d : v ≡ may_hang M S entry free) where
    remove-is : remove img M S slot ≡ unless v 9 (done 0 (hang_stores S slot free.count free.first free.last entry.start entry.end entry.size) (gone img slot))
    unfolding remove entry_of free_of may_hang is_end
    remove-is =
        let s : word_at img (slot + 17) ≡ 0 → ⊥ = λ z. h (ap (λ (x : Entry). x.size) e ∙ z) in
        rw (ne_eqb (word_at img (slot + 17)) 0 s, gathered, d, e, g) refl

    pub remove-refused : {r x : Refusal} {t : List ℕ} → v ≡ false → r ≡ x → t ≡ over tab (f + 1) (one (code x)) → code x ≡ 9 → out (code r) 0 img t ≡ left img tab f (settled (remove img M S slot))
    remove-refused k p q z = rw (remove-is, k, p, q, z) refl

    pub removed : {i t : List ℕ} → v ≡ true → t ≡ puts tab f (gone img slot ++ put 1 (one 0) ∷ [])
        → i ≡ stored img (hang_stores S slot free.count free.first free.last entry.start entry.end entry.size)
        → out 0 0 i t ≡ left img tab f (settled (remove img M S slot))
    removed k p q = rw (remove-is, k, p, q) refl
