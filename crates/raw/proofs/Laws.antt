-- What put slot and write sector leave where no test refuses them. Of what the code has, v is a test's result, i an image, t a table.
use mathlib.Core.Path.{◌≡◌, refl}
use mathlib.Core.Bool.{Bool, true}
use mathlib.Core.List.{List, [], ◌∷◌}
use Prim.Native.Nat.{ℕ, ◌+◌}
use Rattle.rules.specs.Bytes.{word_at, part, over, one}
use Rattle.rules.specs.Stores.{store, stored}
use Rattle.rules.specs.Image.{index, is_sector}
use Rattle.rules.specs.Outcome.{out, settled, left}
use Rattle.rules.specs.Files.{put_slot, write_sector}
use Rattle.rules.specs.Transfer.{slot_in}
use Rattle.rules.specs.Refusals.{code}
use Rattle.rules.specs.declared.refusal.Refusal.{Refusal}
use Rattle.rules.specs.declared.NoSlot.{NoSlot}
use Rattle.std.specs.Prelude.{Result, Err}
use Rattle.laws.specs.Settled.{slot-none}
use Rattle.laws.specs.Walk.{slot-begins}
use Rattle.raw.specs.Parts.{put_slot_at}

-- ---- put slot

pub slot-put : (img tab : List ℕ) (f slot : ℕ) {i t : List ℕ} → i ≡ over img slot (part tab (f + 4) 24) → t ≡ over tab (f + 1) (one 0)
    → out 0 0 i t ≡ left img tab f (settled (put_slot_at tab f slot))
unfolding put_slot_at
slot-put img tab f slot p q = rw (q, p, slot-begins) refl

-- where the block's place is no slot
pub put_none : (img tab : List ℕ) (M S f : ℕ) {v : Result ℕ NoSlot} {n : NoSlot} {r x : Refusal} {t : List ℕ} → v ≡ slot_in img tab M S f → v ≡ Err n → r ≡ x
    → t ≡ over tab (f + 1) (one (code x)) → code x ≡ 5 → out (code r) 0 img t ≡ left img tab f (settled (put_slot img tab M S f))
unfolding put_slot
put_none img tab M S f p h q d k = slot-none img tab f _ (slot_in img tab M S f) 5 p h q d k

-- ---- write sector

module _ (img tab : List ℕ) (M S f : ℕ) {v : Bool} {a : ℕ} (e : a ≡ word_at tab (f + 30)) (g : v ≡ is_sector M S a) where
  pub sector-written : {k : ℕ} {i t : List ℕ} → v ≡ true → k ≡ index S a → i ≡ stored img (store k 0 (part tab (f + 64) 256) ∷ []) → t ≡ over tab (f + 1) (one 0)
      → out 0 0 i t ≡ left img tab f (settled (write_sector img tab M S f))
  unfolding write_sector
  sector-written h q p d = rw (← e, ← g, h, d, p, q) refl
