-- 01, "Function codes served at first", and 02's: the functions by their codes.
use Rattle.std.specs.Prelude.{◌≡◌, refl, true, false, ℕ, Result, Ok, Err, MatchResult}
use Rattle.rules.specs.Bytes.{within}
use Rattle.rules.specs.Call.{served}
use Rattle.rules.specs.declared.refusal.Refusal.{Refusal}
use Rattle.rules.specs.declared.refusal.Refusal.TheVariants.{NotServed}
use Rattle.laws.specs.Tests.{clash}
use Rattle.fms.specs.declared.function.Function.{Function}
use Rattle.fms.specs.declared.function.Function.TheVariants.{Transfer, OpenRead, OpenWrite, Close, Rewind, OpenDirectory, NextSlot, PutSlot, ReadSector, WriteSector, Delete, Rename}

-- the code that stands for it
abbrev pub function_byte : Function → ℕ
function_byte Transfer = 0
function_byte OpenRead = 1
function_byte OpenWrite = 2
function_byte Close = 4
function_byte Rewind = 5
function_byte OpenDirectory = 6
function_byte NextSlot = 7
function_byte PutSlot = 8
function_byte ReadSector = 9
function_byte WriteSector = 10
function_byte Delete = 12
function_byte Rename = 13

-- the result is the function with this code, or the refusal 1 of a code that is not served
abbrev pub Decodes : ℕ → Result Function Refusal → Type 0
Decodes code r = MatchResult r (λ g. function_byte g ≡ code) (λ e. (e ≡ NotServed) × (served code ≡ false))

-- from what is decoded
pub code-is : (code : ℕ) {r : Result Function Refusal} {g : Function} → Decodes code r → r ≡ Ok g → function_byte g ≡ code
code-is code {r = Ok x} d h = cc
code-is code {r = Err e} d h = clash (cc)

pub no-function : (code : ℕ) {r : Result Function Refusal} {e : Refusal} → Decodes code r → r ≡ Err e → (e ≡ NotServed) × (served code ≡ false)
no-function code {r = Ok x} d h = clash (cc)
no-function code {r = Err x} d h = (let u : x ≡ NotServed = d.0 in cc, d.1)

-- each is served
pub is-served : (g : Function) {c : ℕ} → function_byte g ≡ c → served c ≡ true
unfolding served within
is-served Transfer e = rw (← e) refl
is-served OpenRead e = rw (← e) refl
is-served OpenWrite e = rw (← e) refl
is-served Close e = rw (← e) refl
is-served Rewind e = rw (← e) refl
is-served OpenDirectory e = rw (← e) refl
is-served NextSlot e = rw (← e) refl
is-served PutSlot e = rw (← e) refl
is-served ReadSector e = rw (← e) refl
is-served WriteSector e = rw (← e) refl
is-served Delete e = rw (← e) refl
is-served Rename e = rw (← e) refl
