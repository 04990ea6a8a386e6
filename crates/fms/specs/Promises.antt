-- No second outcome fits the promise of a public function of this crate; the call's promise in its parts.
use Rattle.std.specs.Prelude.{◌≡◌, refl, Bool, true, false, List, ℕ, Result, Ok, Err, eqb}
use Rattle.std.proofs.Math.Path.{sym, ap, ◌∙◌}
use Rattle.rules.specs.Bytes.{pick}
use Rattle.rules.specs.Refusals.{code}
use Rattle.rules.specs.declared.refusal.Refusal.{Refusal}
use Rattle.rules.specs.Outcome.{out, left}
use Rattle.rules.specs.Block.{block_at}
use Rattle.rules.specs.Call.{call, served, fits, misfit}
use Rattle.laws.specs.Tests.{clash}
use Rattle.laws.specs.Refusals.{code-inj}
use Rattle.laws.specs.Single.{Single, single, SingleGiven, single-given}
use Rattle.laws.specs.Parts.{Parts, parts}
use Rattle.fms.specs.declared.function.Function.{Function}
use Rattle.fms.specs.declared.function.Function.TheVariants.{Transfer, OpenRead, OpenWrite, Close, Rewind, OpenDirectory, NextSlot, PutSlot, ReadSector, WriteSector, Delete, Rename}
use Rattle.fms.specs.Functions.{function_byte, Decodes, is-served}

pub is-served-single : (code : ℕ) → Single (served code)
is-served-single code = single (served code)

pub takes-single : (code act : ℕ) → Single (fits code act)
takes-single code act = single (fits code act)

pub misfit-of-single : (code act : ℕ) → Single (misfit code act)
misfit-of-single code act = single (misfit code act)

-- no two functions have one code
function_of : ℕ → Function
function_of n =
    pick (eqb n 0) Transfer (
    pick (eqb n 1) OpenRead (
    pick (eqb n 2) OpenWrite (
    pick (eqb n 4) Close (
    pick (eqb n 5) Rewind (
    pick (eqb n 6) OpenDirectory (
    pick (eqb n 7) NextSlot (
    pick (eqb n 8) PutSlot (
    pick (eqb n 9) ReadSector (
    pick (eqb n 10) WriteSector (
    pick (eqb n 12) Delete (
    Rename)))))))))))

function-is : (g : Function) → function_of (function_byte g) ≡ g
unfolding function_of
function-is Transfer = refl
function-is OpenRead = refl
function-is OpenWrite = refl
function-is Close = refl
function-is Rewind = refl
function-is OpenDirectory = refl
function-is NextSlot = refl
function-is PutSlot = refl
function-is ReadSector = refl
function-is WriteSector = refl
function-is Delete = refl
function-is Rename = refl

refused_not : {A : Type 0} (code : ℕ) (g : Function) → function_byte g ≡ code → served code ≡ false → A
refused_not code g h k =
    let z : ◌≡◌ {A = Bool} true false = sym (is-served g h) ∙ k in
    clash (cc)

pub try-from-single : (code : ℕ) (x y : Result Function Refusal) → Decodes code x → Decodes code y → x ≡ y
try-from-single code (Ok g) (Ok k) h d = ap Ok (sym (function-is g) ∙ ap function_of (h ∙ sym d) ∙ function-is k)
try-from-single code (Ok g) (Err e) h d = refused_not code g h d.1
try-from-single code (Err e) (Ok g) h d = refused_not code g d h.1
try-from-single code (Err e) (Err u) h d = ap Err (h.0 ∙ sym d.0)

pub misfit-single : (g : Function) (act : ℕ) (x y : Refusal) → code x ≡ misfit (function_byte g) act → code y ≡ misfit (function_byte g) act → x ≡ y
misfit-single g act x y h k = code-inj x y (h ∙ sym k)

pub call-single : (img tab : List ℕ) (n b : ℕ) → SingleGiven (left img tab (block_at n) (call img tab n b))
call-single img tab n b = single-given (left img tab (block_at n) (call img tab n b))

-- answer, byte, image and table, each by itself
pub call-parts : (img tab : List ℕ) (n b : ℕ) {a v : ℕ} {i t : List ℕ} → out a v i t ≡ left img tab (block_at n) (call img tab n b)
    → Parts img tab (block_at n) (call img tab n b) a v i t
call-parts img tab n b h = parts img tab (block_at n) (call img tab n b) h
