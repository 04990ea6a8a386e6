-- Laws that the proofs of this crate cite: what each way out of a function comes to.
use mathlib.Core.Path.{◌≡◌, refl, sym, ap, ◌∙◌}
use mathlib.Core.Bool.{Bool, true, false}
use mathlib.Core.List.{List, [], ◌∷◌, ◌++◌}
use Rattle.std.specs.Prelude.{Result, Ok, Err}
use Prim.Native.Nat.{ℕ, ◌+◌, ◌-◌, ◌*◌, ◌/◌, ◌%◌}
use native.Mathlib.Nat.{add-zero}
use native.Mathlib.Omega.{arith}
use mir.Syntax.{w8}
use mir.Val.{Fits}
use lib.ListN.{get_or}
use lib.Dec.{eqb}
use borrow.Author.Tests.{eq-eqb, ne_eqb}
use Rattle.rules.specs.Bytes.{pick, word_at, part, over, one, two, six, zeros}
use Rattle.rules.specs.Stores.{stored, puts}
use Rattle.rules.specs.Image.{index, is_data, link_of, info_sector, first_free, last_free, free_count}
use Rattle.rules.specs.Directory.{placed}
use Rattle.rules.specs.declared.NoSlot.{NoSlot}
use Rattle.rules.specs.declared.NoSlot.TheVariants.{Missing, Broken}
use Rattle.rules.specs.Refusals.{code}
use Rattle.rules.specs.declared.refusal.Refusal.{Refusal}
use Rattle.rules.specs.declared.refusal.Refusal.TheVariants.{DiskFull, BadWrite}
use Rattle.rules.specs.Outcome.{Out, out, left}
use Rattle.rules.specs.Transfer.{off_free, slot_in, fresh, linked, take_puts, take_sector}
use Rattle.laws.specs.Tests.{flag}
use Rattle.laws.specs.Stores.{stored-append}
use Rattle.disk.specs.declared.Free.{Free}
use Rattle.disk.specs.Loaded.{free_of}
use Rattle.taking.specs.declared.Block.{Block}
use Rattle.taking.specs.declared.Longer.{Longer}
use Rattle.taking.specs.Take.{free_sector, follows, block_of, longer_of, longer_stores, take_by, take-for, taken}

pub follows-none : (M S a : ℕ) {r : Bool} → a ≡ 0 → r ≡ true → r ≡ follows M S a
unfolding follows
follows-none M S a h e = rw (eq-eqb a 0 h) e

pub follows-data : (M S a : ℕ) {r : Bool} → (a ≡ 0 → ⊥) → r ≡ is_data M S a → r ≡ follows M S a
unfolding follows
follows-data M S a h e = rw (ne_eqb a 0 h) e

-- a place by its three bytes
pub place-loaded : (img tab : List ℕ) (M S f : ℕ) {a d : ℕ} {o : Result ℕ NoSlot} → o ≡ placed img M S (two a ++ one d) → a ≡ word_at tab (f + 47) → d ≡ get_or tab (f + 47 + 2) 0
    → ((i : ℕ) → Fits w8 (get_or tab i 0)) → o ≡ slot_in img tab M S f
unfolding part two one word_at
place-loaded img tab M S f {a} e p q fits =
    let high : a / 256 % 256 ≡ get_or tab (f + 47) 0 = omega (arith, p, fits (f + 47), fits (f + 47 + 1)) in
    let low : a % 256 ≡ get_or tab (f + 47 + 1) 0 = omega (arith, p, fits (f + 47), fits (f + 47 + 1)) in
    let n : f + 47 + 2 ≡ f + 47 + 1 + 1 = omega arith in
    e ∙ rw (high, low, q, n) refl

-- the free chain asked
module _ (img : List ℕ) (M S : ℕ) {free : Free} (e : free ≡ free_of img) where
  count-is : free_count img ≡ free.count
  unfolding free_of
  count-is = ap (λ (x : Free). x.count) (sym e)

  first-is : first_free img ≡ free.first
  unfolding free_of
  first-is = ap (λ (x : Free). x.first) (sym e)

  pub sector-none : free.count ≡ 0 → Err DiskFull ≡ free_sector img M S
  unfolding free_sector
  sector-none h = rw (count-is, eq-eqb free.count 0 h) refl

  module _ (h : free.count ≡ 0 → ⊥) {r : Bool} (q : r ≡ is_data M S free.first) where
    pub sector-bad : r ≡ false → Err BadWrite ≡ free_sector img M S
    unfolding free_sector
    sector-bad k = rw (count-is, ne_eqb free.count 0 h, first-is, ← q, k) refl

    pub sector-free : r ≡ true → Ok free.first ≡ free_sector img M S
    unfolding free_sector
    sector-free k = rw (count-is, ne_eqb free.count 0 h, first-is, ← q, k) refl

-- and taken from: its last sector, or another
module _ (img : List ℕ) (S : ℕ) {free : Free} (e : free ≡ free_of img) where
  pub off-last : {i : List ℕ} → free.count ≡ 1 → i ≡ over img (256 * info_sector + 29) (zeros 6) → i ≡ stored img (off_free img S ∷ [])
  unfolding off_free
  off-last h d = rw (count-is img S S e, eq-eqb free.count 1 h) d

  pub off_next : {i : List ℕ} {k n c : ℕ} → (free.count ≡ 1 → ⊥) → k ≡ index S free.first → n ≡ link_of img k → c ≡ free.count - 1
      → i ≡ over img (256 * info_sector + 29) (six n free.last c) → i ≡ stored img (off_free img S ∷ [])
  unfolding off_free free_of
  off_next h a b m d =
      let l : last_free img ≡ free.last = ap (λ (x : Free). x.last) (sym e) in
      rw (count-is img S S e, ne_eqb free.count 1 h, l, first-is img S S e, ← a, ← b, ← m) d

-- the image after the stores of a sector taken: the free chain, the new sector, the former position's link, the slot
pub image-taken : (img : List ℕ) (S slot : ℕ) (file : Longer)
    → stored img (longer_stores img S slot file)
    ≡ over (stored (over (stored img (off_free img S ∷ [])) (256 * index S file.new) (fresh file.size)) (linked (eqb file.former 0) (index S file.former) file.new))
    (slot + 13) (six file.start file.new file.size)
unfolding longer_stores off_free
image-taken img S slot file =
    let n : 256 * (slot / 256) + (slot % 256 + 13) ≡ slot + 13 = omega arith in
    rw (stored-append (linked (eqb file.former 0) (index S file.former) file.new), add-zero, n) refl

-- the tests, then the stores
module _ (img tab : List ℕ) (M S f slot : ℕ) (block : Block) {v : Bool} (p : v ≡ follows M S block.position) where
  pub by-stray : v ≡ false → out 10 0 img tab ≡ left img tab f (taken (take_by img M S slot block))
  unfolding take_by flag
  by-stray h = rw (← p, h) refl

  module _ (h : v ≡ true) {r : Result ℕ Refusal} (q : r ≡ free_sector img M S) where
    pub by-none : {e : Refusal} → r ≡ Err e → out (code e) 0 img tab ≡ left img tab f (taken (take_by img M S slot block))
    unfolding take_by flag
    by-none k = rw (← p, h, ← q, k) refl

    module _ {new : ℕ} (k : r ≡ Ok new) where
      pub by-full : block.size ≡ 65535 → out 10 0 img tab ≡ left img tab f (taken (take_by img M S slot block))
      unfolding take_by flag
      by-full d = rw (← p, h, ← q, k, eq-eqb block.size 65535 d) refl

      pub by-taken : {s : ℕ} {i t : List ℕ} → (block.size ≡ 65535 → ⊥) → s ≡ pick (eqb block.start 0) new block.start
          → i ≡ stored img (longer_stores img S slot (record { former = block.position; new = new; start = s; size = block.size + 1 }))
          → t ≡ puts tab f (take_puts new s (block.size + 1))
          → out 0 0 i t ≡ left img tab f (taken (take_by img M S slot block))
      unfolding take_by flag longer_of
      by-taken d w a b = rw (← p, h, ← q, k, ne_eqb block.size 65535 d, ← w, ← a, ← b) refl

module _ (img tab : List ℕ) (M S f : ℕ) {found : Result ℕ NoSlot} (e : found ≡ slot_in img tab M S f) where
  pub taken_at : {o : Out} {slot : ℕ} {block : Block} → found ≡ Ok slot → block ≡ block_of tab f → o ≡ left img tab f (taken (take_by img M S slot block))
      → o ≡ left img tab f (taken (take_sector img tab M S f))
  unfolding take_sector
  taken_at {slot} h b k = k ∙ rw (← e, h, take-for img tab M S f slot, b) refl

  pub taken-none : {x : NoSlot} → found ≡ Err x → out 5 0 img tab ≡ left img tab f (taken (take_sector img tab M S f))
  unfolding take_sector
  taken-none {x = Missing} h = rw (← e, h) refl
  taken-none {x = Broken} h = rw (← e, h) refl
