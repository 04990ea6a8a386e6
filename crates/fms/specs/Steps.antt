-- The call in steps, as the code makes them: what is asked once the image's shape is right.
use Rattle.std.specs.Prelude.{◌≡◌, List, ℕ, Result, MatchResult, eqb}
use Rattle.rules.specs.Bytes.{pick}
use Rattle.rules.specs.Refusals.{code}
use Rattle.rules.specs.declared.refusal.Refusal.{Refusal}
use Rattle.rules.specs.Outcome.{Outcome, unless}
use Rattle.rules.specs.Block.{function_in, activity_in, drive_in}
use Rattle.rules.specs.Call.{served, fits, misfit, perform}
use Rattle.fms.specs.declared.function.Function.{Function}
use Rattle.fms.specs.Functions.{function_byte}

-- 0, or the number of the first check that the block fails: is its code served, the drive, does the activity fit
unfoldable pub fault : List ℕ → ℕ → ℕ
fault tab f =
    pick (served (function_in tab f))
    (pick (eqb (drive_in tab f) 0)
    (pick (fits (function_in tab f) (activity_in tab f)) 0 (misfit (function_in tab f) (activity_in tab f)))
    16)
    1

-- the result is the block's function where it passes all checks, or else the refusal of the first that it fails
abbrev pub Checked : List ℕ → ℕ → Result Function Refusal → Type 0
Checked tab f r = MatchResult r (λ g. (function_byte g ≡ function_in tab f) × (fault tab f ≡ 0)) (λ e. code e ≡ fault tab f)

unfoldable pub on_shape : List ℕ → List ℕ → ℕ → ℕ → ℕ → ℕ → Outcome
on_shape img tab M S f b =
    unless (served (function_in tab f)) 1
    (unless (eqb (drive_in tab f) 0) 16
    (unless (fits (function_in tab f) (activity_in tab f)) (misfit (function_in tab f) (activity_in tab f))
    (perform img tab M S f b)))
