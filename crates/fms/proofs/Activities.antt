-- Laws of the codes and activities: what is served, what a function takes.
use mathlib.Core.Path.{◌≡◌, refl}
use mathlib.Core.Bool.{Bool, true, false}
use mathlib.Core.Logic.{◌⊎◌, inl, inr}
use Prim.Native.Nat.{ℕ}
use native.Mathlib.Omega.{arith}
use lib.Dec.{eqb}
use borrow.Author.Tests.{ne_eqb}
use Rattle.rules.specs.Bytes.{within}
use Rattle.rules.specs.Block.{idle}
use Rattle.rules.specs.Call.{served, fits, misfit}
use Rattle.laws.specs.Tests.{pick_all, either, within-is}
use Rattle.fms.specs.declared.function.Function.{Function}
use Rattle.fms.specs.declared.function.Function.TheVariants.{Transfer, OpenRead, OpenWrite, Close, Rewind, OpenDirectory, NextSlot, PutSlot, ReadSector, WriteSector, Delete, Rename}
use Rattle.fms.specs.Functions.{function_byte}

-- ---- a code that is none of the twelve

pub unserved : (c : ℕ) → (c ≡ 0 → ⊥) → (c ≡ 1 → ⊥) → (c ≡ 2 → ⊥) → (c ≡ 4 → ⊥) → (c ≡ 5 → ⊥) → (c ≡ 6 → ⊥) → (c ≡ 7 → ⊥) → (c ≡ 8 → ⊥) → (c ≡ 9 → ⊥) → (c ≡ 10 → ⊥) → (c ≡ 12 → ⊥)
    → (c ≡ 13 → ⊥) → served c ≡ false
unfolding served
unserved c h0 h1 h2 h4 h5 h6 h7 h8 h9 h10 h12 h13 = go (served c) refl
  where
    go : (b : Bool) → served c ≡ b → b ≡ false
    go false e = refl
    go true e =
        either (within 0 2 c) _ e (λ k. absurd (omega (arith, within-is 0 2 c k)))
        (λ k. either (within 4 10 c) (within 12 13 c) k (λ m. absurd (omega (arith, within-is 4 10 c m))) (λ m. absurd (omega (arith, within-is 12 13 c m))))

-- ---- the activities that a function takes

module _ (g : Function) (act : ℕ) {r : Bool} where
  pub file-fits : g ≡ Transfer → r ≡ within 1 2 act → r ≡ fits (function_byte g) act
  unfolding fits
  file-fits e h = rw e h

  pub close-fits : g ≡ Close → r ≡ within 1 2 act → r ≡ true → r ≡ fits (function_byte g) act
  unfolding fits
  close-fits e h k = rw (e, ← h, k) refl

  pub close-other : g ≡ Close → r ≡ within 1 2 act → r ≡ false → eqb act 16 ≡ fits (function_byte g) act
  unfolding fits
  close-other e h k = rw (e, ← h, k) refl

  pub idle-fits : (g ≡ OpenRead) ⊎ (g ≡ OpenWrite) ⊎ (g ≡ OpenDirectory) ⊎ (g ≡ ReadSector) ⊎ (g ≡ WriteSector) ⊎ (g ≡ Delete) ⊎ (g ≡ Rename)
      → r ≡ idle act → r ≡ fits (function_byte g) act
  unfolding fits within
  idle-fits (inl e) h = rw e h
  idle-fits (inr (inl e)) h = rw e h
  idle-fits (inr (inr (inl e))) h = rw e h
  idle-fits (inr (inr (inr (inl e)))) h = rw e h
  idle-fits (inr (inr (inr (inr (inl e))))) h = rw e h
  idle-fits (inr (inr (inr (inr (inr (inl e)))))) h = rw e h
  idle-fits (inr (inr (inr (inr (inr (inr e)))))) h = rw e h

module _ (g : Function) (act : ℕ) where
  pub reading-fits : g ≡ Rewind → eqb act 1 ≡ fits (function_byte g) act
  unfolding fits
  reading-fits e = rw e refl

  pub directory-fits : (g ≡ NextSlot) ⊎ (g ≡ PutSlot) → eqb act 16 ≡ fits (function_byte g) act
  unfolding fits within
  directory-fits (inl e) = rw e refl
  directory-fits (inr e) = rw e refl

pub ruleset activities = (file-fits, close-fits, close-other, idle-fits, reading-fits, directory-fits)

-- ---- the refusal of one that it does not take

module _ (g : Function) (act : ℕ) where
  pub misfit-closed : g ≡ Close → act ≡ 0 → 13 ≡ misfit (function_byte g) act
  unfolding misfit
  misfit-closed e h = rw (e, h) refl

  pub misfit-open : (act ≡ 0 → ⊥) → 18 ≡ misfit (function_byte g) act
  unfolding misfit
  misfit-open h = pick_all (λ (n : ℕ). 18 ≡ n) (eqb (function_byte g) 4) _ _ (rw (ne_eqb act 0 h) refl) refl

pub misfit-other : (g : Function) (act : ℕ) → (g ≡ Close → ⊥) → 18 ≡ misfit (function_byte g) act
unfolding misfit
misfit-other Transfer act h = refl
misfit-other OpenRead act h = refl
misfit-other OpenWrite act h = refl
misfit-other Close act h = absurd (h refl)
misfit-other Rewind act h = refl
misfit-other OpenDirectory act h = refl
misfit-other NextSlot act h = refl
misfit-other PutSlot act h = refl
misfit-other ReadSector act h = refl
misfit-other WriteSector act h = refl
misfit-other Delete act h = refl
misfit-other Rename act h = refl
