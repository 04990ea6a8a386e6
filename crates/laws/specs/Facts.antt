-- What each function may come to: the numbers it is refused with, its stores, its puts. On an image of the right shape; `asked` needs no such thing.
use Rattle.std.specs.Prelude.{◌≡◌, Bool, ℕ, ◌≤◌, ◌<◌, length, eqb}
use Rattle.std.proofs.Math.Bool.{true, false}
use mathlib.Core.List.{List, [], ◌∷◌, ◌++◌}
use native.Mathlib.Omega.{arith}
use Rattle.std.proofs.Math.ListN.{length-append}
use Rattle.rules.specs.Bytes.{pick}
use Rattle.rules.specs.Image.{last_track, per_track, index, first_free}
use Rattle.rules.specs.Block.{function_in, activity_in, position_in}
use Rattle.rules.specs.Transfer.{take_stores}
use Rattle.laws.specs.Tests.{clash, either}
use Rattle.laws.specs.Small.{Small}
use Rattle.laws.specs.Addresses.{Shaped}
use Rattle.laws.specs.Fair.{length-linked}

-- what the call is given is below 256
pub record Given (img tab : List ℕ) (b : ℕ) : Type 0 where
  pub image : Small img
  pub table : Small tab
  pub byte : b < 256

-- ---- the numbers that each function may be refused with, after the checks that all calls have

abbrev pub in_reading : List ℕ
in_reading = 8 ∷ 9 ∷ []

abbrev pub in_writing : List ℕ
in_writing = 5 ∷ 10 ∷ 7 ∷ []

abbrev pub in_close : List ℕ
in_close = 5 ∷ 10 ∷ []

abbrev pub in_open_read : List ℕ
in_open_read = 21 ∷ 5 ∷ 4 ∷ 17 ∷ 2 ∷ []

abbrev pub in_open_write : List ℕ
in_open_write = 21 ∷ 5 ∷ 3 ∷ 7 ∷ 10 ∷ []

abbrev pub in_next_slot : List ℕ
in_next_slot = 5 ∷ 8 ∷ []

abbrev pub in_put_slot : List ℕ
in_put_slot = 5 ∷ []

abbrev pub in_read_sector : List ℕ
in_read_sector = 9 ∷ []

abbrev pub in_write_sector : List ℕ
in_write_sector = 10 ∷ []

abbrev pub in_delete : List ℕ
in_delete = 21 ∷ 5 ∷ 4 ∷ 2 ∷ 12 ∷ 11 ∷ 9 ∷ []

abbrev pub in_rename : List ℕ
in_rename = 21 ∷ 5 ∷ 4 ∷ 2 ∷ 11 ∷ 3 ∷ []

-- by the function's code and the block's activity, in the order of `perform`
unfoldable pub refusals : ℕ → ℕ → List ℕ
refusals code act =
    pick (eqb code 0) (pick (eqb act 1) in_reading in_writing)
    (pick (eqb code 1) in_open_read
    (pick (eqb code 2) in_open_write
    (pick (eqb code 4) in_close
    (pick (eqb code 5) []
    (pick (eqb code 6) []
    (pick (eqb code 7) in_next_slot
    (pick (eqb code 8) in_put_slot
    (pick (eqb code 9) in_read_sector
    (pick (eqb code 10) in_write_sector
    (pick (eqb code 12) in_delete
    in_rename))))))))))

-- how many stores it may make
unfoldable pub most_stores : ℕ → ℕ → ℕ
most_stores code act =
    pick (eqb code 0) (pick (eqb act 1) 0 4)
    (pick (eqb code 1) 0
    (pick (eqb code 2) 4
    (pick (eqb code 4) 1
    (pick (eqb code 5) 0
    (pick (eqb code 6) 0
    (pick (eqb code 7) 0
    (pick (eqb code 8) 1
    (pick (eqb code 9) 0
    (pick (eqb code 10) 1
    (pick (eqb code 12) 3
    1))))))))))

-- the numbers of the checks that all calls have: shape and drive, function, activity
abbrev pub in_checks : List ℕ
in_checks = 16 ∷ 1 ∷ 18 ∷ 13 ∷ []

-- where the first of two tests fails, the second is what held
pub second : (b c : Bool) → pick b true c ≡ true → b ≡ false → c ≡ true
second b c h e = either b c h (λ d. clash (cc)) (λ d. d)

module _ (img tab : List ℕ) (f b : ℕ) (z : Shaped img) where
  abbrev M : ℕ
  M = last_track img

  abbrev S : ℕ
  S = per_track img

  -- a sector taken makes at most four stores
  pub few-take : (slot : ℕ) → length (take_stores img tab M S f slot) ≤ 4
  unfolding take_stores
  few-take slot = simp length-append (omega (arith, length-linked (eqb (position_in tab f) 0) (index S (position_in tab f)) (first_free img)))

-- what a call may come to: any image, any table
module _ (img tab : List ℕ) (f b : ℕ) where
  abbrev code : ℕ
  code = function_in tab f

  abbrev act : ℕ
  act = activity_in tab f

  abbrev pub asked_numbers : List ℕ
  asked_numbers = in_checks ++ refusals code act
