-- What `settled` makes of an outcome that touches no more than it may.
use Rattle.std.specs.Prelude.{List, ℕ}
use Rattle.std.proofs.Math.Path.{refl}
use Rattle.rules.specs.Outcome.{Outcome, refuse, done, given, on_image, on_block, settled}
use Rattle.laws.specs.Each.{each_append}
use Rattle.met.specs.Bounds.{Tame, Tamed, Touched, numbered}

module _ (tab : List ℕ) (code act : ℕ) where
  pub tame-settled : (o : Outcome) → Tamed tab code act o
      → Tame tab code act (given (settled o)) (on_image (settled o)) (on_block (settled o))
  tame-settled (refuse e) d = record { byte = λ h. refl; still = λ h. refl; block = λ s. (numbered tab code act) e }
  tame-settled (done c ss ps) d =
      record { byte = d.byte; still = d.still; block = λ s. each_append (Touched code act) ps _ (d.block s) ((numbered tab code act) 0) }
