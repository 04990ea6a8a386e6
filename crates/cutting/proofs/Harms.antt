-- What matters is the same where the directory's sectors and the files' are.
use Rattle.std.specs.Prelude.{◌≡◌, refl, ◌⊎◌, ℕ, ◌*◌, ◌/◌, ◌≤◌, ◌<◌}
use Rattle.std.proofs.Common.{inl, inr, arith}
use Rattle.std.proofs.Math.Decide.{ℕ_discrete}
use Rattle.chains.specs.Tally.{tally}
use Rattle.demands.specs.Ledger.{Ledger}
use Rattle.cutting.specs.Kinds.{Matters, of_front}
use Rattle.cutting.specs.Harms.{directory-matters}

-- so does every byte of track 0, but for the record
pub rest-matters : (S : ℕ) (a : Ledger) (p : ℕ) → (p < 256 * S) ⊎ (1 ≤ tally (p / 256) a.dir) → (541 ≤ p → p < 547 → ⊥) → Matters S a p
rest-matters S a p at out = go (ℕ_discrete (tally (p / 256) a.dir) 0) at
  where
    go : Dec (tally (p / 256) a.dir ≡ 0) → (p < 256 * S) ⊎ (1 ≤ tally (p / 256) a.dir) → Matters S a p
    go (no t) u = directory-matters S a (p / 256) p (omega (arith, t)) refl
    go (yes t) (inl u) = of_front u out t
    go (yes t) (inr u) = absurd (omega (arith, t, u))
