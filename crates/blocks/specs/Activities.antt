-- 01, "File control block": "2 activity (0 closed, 1 read, 2 write, 16 directory, house)".
use Rattle.std.specs.Prelude.{◌≡◌, ◌≢◌, ℕ, Result, Ok, Err, MatchResult}
use Rattle.rules.specs.declared.refusal.Refusal.{Refusal}
use Rattle.rules.specs.declared.refusal.Refusal.TheVariants.{Unfit}
use Rattle.laws.specs.Tests.{clash}
use Rattle.blocks.specs.declared.activity.Activity.{Activity}
use Rattle.blocks.specs.declared.activity.Activity.TheVariants.{Closed, Reading, Writing, Directory}

-- the byte that stands for it
abbrev pub activity_byte : Activity → ℕ
activity_byte Closed = 0
activity_byte Reading = 1
activity_byte Writing = 2
activity_byte Directory = 16

-- the result is the activity with this byte, or the refusal 18 of a byte that no activity has
abbrev pub Decodes : ℕ → Result Activity Refusal → Type 0
Decodes byte r = MatchResult r (λ a. activity_byte a ≡ byte) (λ e. (e ≡ Unfit) × ((a : Activity) → activity_byte a ≢ byte))

-- from what is decoded
pub byte-is : (byte : ℕ) {r : Result Activity Refusal} {a : Activity} → Decodes byte r → r ≡ Ok a → activity_byte a ≡ byte
byte-is byte {r = Ok x} d h = cc
byte-is byte {r = Err e} d h = clash (cc)

pub no-byte : (byte : ℕ) {r : Result Activity Refusal} {e : Refusal} → Decodes byte r → r ≡ Err e → (e ≡ Unfit) × ((a : Activity) → activity_byte a ≢ byte)
no-byte byte {r = Ok x} d h = clash (cc)
no-byte byte {r = Err x} d h = (let u : x ≡ Unfit = d.0 in cc, d.1)
