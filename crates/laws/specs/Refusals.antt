-- A refusal's number: it is not the answer 0, and no other refusal has it.
use Rattle.std.specs.Prelude.{◌≡◌, false, ℕ, ◌<◌, Result, Ok, Err, eqb}
use Prim.{Unit}
use Rattle.std.specs.Result.{IsErrAnd}
use Rattle.std.proofs.Math.Path.{refl, sym, ap, ◌∙◌}
use Rattle.std.proofs.Common.{arith, ne_eqb}
use Rattle.rules.specs.Bytes.{pick}
use Rattle.rules.specs.Refusals.{code, number_of, byte_of}
use Rattle.rules.specs.declared.refusal.Refusal.{Refusal}
use Rattle.rules.specs.declared.refusal.Refusal.TheVariants.{NotServed, InUse, Exists, NotFound, NoDirectory, DiskFull, AtEnd, BadRead, BadWrite, WriteProtected, DeleteProtected, NoBlock, NoDiskette, ReadProtected, Unfit, BadName, WrongLength, WrongShape, WrongDirectory, SameName, WrongFreeChain, WrongFile, NotOnce}

pub code-some : (e : Refusal) → 0 < code e
code-some NotServed = omega arith
code-some InUse = omega arith
code-some Exists = omega arith
code-some NotFound = omega arith
code-some NoDirectory = omega arith
code-some DiskFull = omega arith
code-some AtEnd = omega arith
code-some BadRead = omega arith
code-some BadWrite = omega arith
code-some WriteProtected = omega arith
code-some DeleteProtected = omega arith
code-some NoBlock = omega arith
code-some NoDiskette = omega arith
code-some ReadProtected = omega arith
code-some Unfit = omega arith
code-some BadName = omega arith
code-some WrongLength = omega arith
code-some WrongShape = omega arith
code-some WrongDirectory = omega arith
code-some SameName = omega arith
code-some WrongFreeChain = omega arith
code-some WrongFile = omega arith
code-some NotOnce = omega arith

pub code-not : (e : Refusal) → eqb (code e) 0 ≡ false
code-not e = ne_eqb (code e) 0 (λ z. absurd (omega (arith, code-some e, z)))

-- what is done answers 0, and only that
pub refused : {A : Type 0} {r : Result A Refusal} {e : Refusal} → r ≡ Err e → 0 < number_of r
refused {e} h = rw h (code-some e)

-- what `?` hands on
pub passed_on : {A : Type 0} (r : Result A Refusal) (e : Refusal) → IsErrAnd r (λ y. y ≡ e) → number_of r ≡ code e
passed_on (Ok a) e h = absurd h
passed_on (Err y) e h = ap code h

-- no two refusals have one number: the refusal with a number
refusal_of : ℕ → Refusal
refusal_of n =
    pick (eqb n 1) NotServed (
    pick (eqb n 2) InUse (
    pick (eqb n 3) Exists (
    pick (eqb n 4) NotFound (
    pick (eqb n 5) NoDirectory (
    pick (eqb n 7) DiskFull (
    pick (eqb n 8) AtEnd (
    pick (eqb n 9) BadRead (
    pick (eqb n 10) BadWrite (
    pick (eqb n 11) WriteProtected (
    pick (eqb n 12) DeleteProtected (
    pick (eqb n 13) NoBlock (
    pick (eqb n 16) NoDiskette (
    pick (eqb n 17) ReadProtected (
    pick (eqb n 18) Unfit (
    pick (eqb n 21) BadName (
    pick (eqb n 40) WrongLength (
    pick (eqb n 41) WrongShape (
    pick (eqb n 42) WrongDirectory (
    pick (eqb n 43) SameName (
    pick (eqb n 44) WrongFreeChain (
    pick (eqb n 45) WrongFile (
    NotOnce))))))))))))))))))))))

refusal-is : (e : Refusal) → refusal_of (code e) ≡ e
unfolding refusal_of
refusal-is NotServed = refl
refusal-is InUse = refl
refusal-is Exists = refl
refusal-is NotFound = refl
refusal-is NoDirectory = refl
refusal-is DiskFull = refl
refusal-is AtEnd = refl
refusal-is BadRead = refl
refusal-is BadWrite = refl
refusal-is WriteProtected = refl
refusal-is DeleteProtected = refl
refusal-is NoBlock = refl
refusal-is NoDiskette = refl
refusal-is ReadProtected = refl
refusal-is Unfit = refl
refusal-is BadName = refl
refusal-is WrongLength = refl
refusal-is WrongShape = refl
refusal-is WrongDirectory = refl
refusal-is SameName = refl
refusal-is WrongFreeChain = refl
refusal-is WrongFile = refl
refusal-is NotOnce = refl

pub code-inj : (e d : Refusal) → code e ≡ code d → e ≡ d
code-inj e d h = sym (refusal-is e) ∙ ap refusal_of h ∙ refusal-is d

-- the number tells the result of what gives nothing
pub done-inj : (x y : Result (Unit {0}) Refusal) → number_of x ≡ number_of y → x ≡ y
done-inj (Ok u) (Ok v) n = refl
done-inj (Ok u) (Err e) n = absurd (omega (arith, code-some e, n))
done-inj (Err e) (Ok v) n = absurd (omega (arith, code-some e, n))
done-inj (Err e) (Err d) n = ap Err (code-inj e d n)

-- number and byte tell what was given
pub answer-inj : (x y : Result ℕ Refusal) → number_of x ≡ number_of y → byte_of x ≡ byte_of y → x ≡ y
answer-inj (Ok b) (Ok d) n h = ap Ok h
answer-inj (Ok b) (Err e) n h = absurd (omega (arith, code-some e, n))
answer-inj (Err e) (Ok d) n h = absurd (omega (arith, code-some e, n))
answer-inj (Err e) (Err d) n h = ap Err (code-inj e d n)
