-- The blank diskette of five sectors a track, with control blocks that are all zero, is a start; calls on it are accepted, and a byte comes back.
use Rattle.std.specs.Prelude.{◌≡◌, refl, [], ◌∷◌, ◌+◌, ◌*◌}
use Rattle.std.proofs.Common.{arith}
use Rattle.rules.specs.Outcome.{left_of}
use Rattle.rules.specs.Bytes.{zeros}
use Rattle.rules.specs.All.{rules}
use Rattle.laws.specs.Bytes.{length-zeros, zeros-at}
use Rattle.laws.specs.Small.{small-zeros}
use Rattle.demands.specs.Ledger.{setting, asking}
use Rattle.demands.specs.Service.{Wanted, flex, Machine, log}
use Rattle.demands.specs.Demands.{Start}
use Rattle.met.specs.Blanks.{from-blank}
use Rattle.refuted.specs.All.{demands}
use Rattle.refuted.specs.Run.{outcomes}

-- M = 1, S = 5, no label, number or date
abbrev smallest : Wanted
smallest = record { last = 1; per = 5; label = zeros 11; volume = 0; month = 0; day = 0; year = 0 }

abbrev pub blank : Machine
blank = record { img = left_of (flex.format (zeros 2560) smallest); tab = zeros 2560 }

pub blank-start : Start blank
unfolding rules
blank-start =
    from-blank.begins (zeros 2560) smallest (zeros 2560) refl
    (record { label = small-zeros 11; month = omega arith; day = omega arith; year = omega arith })
    (length-zeros 2560) (λ n h. zeros-at 2560 (320 * n + 2))

-- a file A.B is made, gets the byte 7, is closed, opened for read, and gives 7; then 0
pub blank-accepted : outcomes (log flex blank (setting 0 4 65 ∷ setting 0 12 66 ∷ setting 0 0 2 ∷ asking 0 0 ∷ asking 0 7 ∷ setting 0 0 4 ∷ asking 0 0 ∷ setting 0 0 1 ∷ asking 0 0 ∷ asking 0 0 ∷ asking 0 0 ∷ []))
    ≡ (0, 0) ∷ (0, 0) ∷ (0, 0) ∷ (0, 0) ∷ (0, 0) ∷ (0, 0) ∷ (0, 0) ∷ (0, 0) ∷ (0, 0) ∷ (0, 7) ∷ (0, 0) ∷ []
unfolding rules demands
blank-accepted = refl
