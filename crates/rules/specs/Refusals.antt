-- 01, "Numbers given back": the number of each refusal, 02's with them; what an answer gives back as numbers.
use Rattle.std.specs.Prelude.{ℕ, Result, Ok, Err}
use Rattle.rules.specs.declared.refusal.Refusal.{Refusal}
use Rattle.rules.specs.declared.refusal.Refusal.TheVariants.{NotServed, InUse, Exists, NotFound, NoDirectory, DiskFull, AtEnd, BadRead, BadWrite, WriteProtected, DeleteProtected, NoBlock, NoDiskette, ReadProtected, Unfit, BadName, WrongLength, WrongShape, WrongDirectory, SameName, WrongFreeChain, WrongFile, NotOnce}

abbrev pub code : Refusal → ℕ
code NotServed = 1
code InUse = 2
code Exists = 3
code NotFound = 4
code NoDirectory = 5
code DiskFull = 7
code AtEnd = 8
code BadRead = 9
code BadWrite = 10
code WriteProtected = 11
code DeleteProtected = 12
code NoBlock = 13
code NoDiskette = 16
code ReadProtected = 17
code Unfit = 18
code BadName = 21
code WrongLength = 40
code WrongShape = 41
code WrongDirectory = 42
code SameName = 43
code WrongFreeChain = 44
code WrongFile = 45
code NotOnce = 46

-- 0 where it is done
abbrev pub number_of : {A : Type 0} → Result A Refusal → ℕ
number_of (Ok a) = 0
number_of (Err e) = code e

-- the byte that reading gives; a refusal gives back byte 0
abbrev pub byte_of : Result ℕ Refusal → ℕ
byte_of (Ok b) = b
byte_of (Err e) = 0
