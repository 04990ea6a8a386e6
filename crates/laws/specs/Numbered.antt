-- The ways of Settled through tests that refuse, for a refusal with any number: r is the answer as a number.
use Rattle.std.specs.Prelude.{◌≡◌, refl, Bool, true, false, List, ℕ, ◌+◌, Result, Ok, Err}
use Rattle.rules.specs.Bytes.{over, one}
use Rattle.rules.specs.Image.{is_sector}
use Rattle.rules.specs.Outcome.{Outcome, unless, when, on_slot, on_none, out, settled, left}
use Rattle.rules.specs.Block.{position_in}
use Rattle.rules.specs.declared.NoSlot.{NoSlot}
use Rattle.rules.specs.declared.NoSlot.TheVariants.{Missing, Broken}

module _ (img tab : List ℕ) (f : ℕ) (next : Outcome) (b : Bool) (e : ℕ) {v : Bool} (p : v ≡ b) where
  pub unless-refused : {r : ℕ} {t : List ℕ} → v ≡ false → r ≡ e → t ≡ over tab (f + 1) (one e) → out r 0 img t ≡ left img tab f (settled (unless b e next))
  unless-refused h q d = rw (← p, h, q, d) refl

  pub when-refused : {r : ℕ} {t : List ℕ} → v ≡ true → r ≡ e → t ≡ over tab (f + 1) (one e) → out r 0 img t ≡ left img tab f (settled (when b e next))
  when-refused h q d = rw (← p, h, q, d) refl

module _ (img tab : List ℕ) (f : ℕ) (next : ℕ → Outcome) (l : Result ℕ NoSlot) (broken missing : ℕ) {v : Result ℕ NoSlot} (p : v ≡ l) where
  pub slot-missing : {r : ℕ} {t : List ℕ} → v ≡ Err Missing → r ≡ missing → t ≡ over tab (f + 1) (one missing)
      → out r 0 img t ≡ left img tab f (settled (on_slot l broken missing next))
  slot-missing h q d = rw (← p, h, q, d) refl

  pub slot-broken : {r : ℕ} {t : List ℕ} → v ≡ Err Broken → r ≡ broken → t ≡ over tab (f + 1) (one broken)
      → out r 0 img t ≡ left img tab f (settled (on_slot l broken missing next))
  slot-broken h q d = rw (← p, h, q, d) refl

module _ (img tab : List ℕ) (f : ℕ) (next : Outcome) (l : Result ℕ NoSlot) (broken there : ℕ) {v : Result ℕ NoSlot} (p : v ≡ l) where
  pub none-there : {slot r : ℕ} {t : List ℕ} → v ≡ Ok slot → r ≡ there → t ≡ over tab (f + 1) (one there)
      → out r 0 img t ≡ left img tab f (settled (on_none l broken there next))
  none-there h q d = rw (← p, h, q, d) refl

  pub none-broken : {r : ℕ} {t : List ℕ} → v ≡ Err Broken → r ≡ broken → t ≡ over tab (f + 1) (one broken)
      → out r 0 img t ≡ left img tab f (settled (on_none l broken there next))
  none-broken h q d = rw (← p, h, q, d) refl

-- the sector at the block's position, which was loaded before
pub sector-none : (img tab : List ℕ) (M S f e : ℕ) (next : Outcome) {v : Bool} {a r : ℕ} {t : List ℕ} → a ≡ position_in tab f → v ≡ is_sector M S a → v ≡ false → r ≡ e
    → t ≡ over tab (f + 1) (one e) → out r 0 img t ≡ left img tab f (settled (unless (is_sector M S (position_in tab f)) e next))
sector-none img tab M S f e next p g h q d = rw (← p, ← g, h, q, d) refl
