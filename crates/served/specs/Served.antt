-- THE THEOREM: the promises give the service. Each promise by itself first, then all seven.
use Rattle.std.specs.Prelude.{◌≡◌, refl, Bool, true, false, List, ℕ, ◌*◌, eqb}
use Rattle.std.proofs.Common.{ap₂, arith, eqb-true, eq-eqb, ne_eqb}
use Rattle.std.proofs.lemmas.Bool.{eqb-false}
use Rattle.rules.specs.Bytes.{pick}
use Rattle.rules.specs.Image.{last_track, per_track}
use Rattle.rules.specs.Outcome.{out, told}
use Rattle.rules.specs.Census.{Survey, survey, fault}
use Rattle.laws.specs.Facts.{Given}
use Rattle.laws.proofs.Effects.{call-lawful}
use Rattle.flex.specs.Promised.{PresetPromise, ExtensionPromise, CallPromise}
use Rattle.demands.specs.Service.{flex}
use Rattle.served.specs.Entries.{words, apart}
use Rattle.served.specs.Words.{unpacked}

-- ---- preset, default extension

pub preset-served : (tab : List ℕ) (n i v r : ℕ) (t : List ℕ) → PresetPromise tab n i v r t → told r t ≡ flex.preset tab n i v
preset-served tab n i v r t p = ap₂ told p.answers p.tables

pub extension-served : (tab : List ℕ) (n c r : ℕ) (t : List ℕ) → ExtensionPromise tab n c r t → told r t ≡ flex.extension tab n c
extension-served tab n c r t p = ap₂ told p.answers p.tables

-- ---- the call: what is given back is a byte, so the number comes apart

outs : {a a' b b' : ℕ} {i i' t t' : List ℕ} → a ≡ a' → b ≡ b' → i ≡ i' → t ≡ t' → out a b i t ≡ out a' b' i' t'
outs p q r s = cc

pub call-served : (img tab : List ℕ) (n b r : ℕ) (i t : List ℕ) → Given img tab b → CallPromise img tab n b r i t → apart (r, i, t) ≡ flex.call img tab n b
call-served img tab n b r i t g p =
    let u = unpacked r _ _ p.answers ((call-lawful img tab n b).byte g) in
    outs u.0 u.1 p.images p.tables

-- ---- the census: its outputs read back

abbrev pub back_of : Survey → Survey
back_of (survey e us ws) = survey e (words us) (words ws)

-- one test decides both
pub pick-both : (t : Bool) (x y u v : Survey) → (t ≡ true → back_of x ≡ u) → (t ≡ false → back_of y ≡ v) → back_of (pick t x y) ≡ pick t u v
pick-both true x y u v p q = p refl
pick-both false x y u v p q = q refl

pub eqb-twice : (m n : ℕ) → eqb (2 * m) (2 * n) ≡ eqb m n
eqb-twice m n = go (eqb m n) refl
  where
    go : (b : Bool) → eqb m n ≡ b → eqb (2 * m) (2 * n) ≡ b
    go true e = eq-eqb (2 * m) (2 * n) (omega (arith, eqb-true m n e))
    go false e = ne_eqb (2 * m) (2 * n) (λ h. eqb-false m n e (omega arith))

abbrev pub fault_of : List ℕ → ℕ
fault_of img = fault img (last_track img) (per_track img)
