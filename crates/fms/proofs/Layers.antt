-- Laws of the call's layers, one for each way out of the code.
use mathlib.Core.Path.{◌≡◌, refl, ap, ◌∙◌}
use mathlib.Core.Bool.{Bool, true, false}
use mathlib.Core.List.{List, []}
use Rattle.std.specs.Prelude.{Option, Some, None, Result, Ok, Err}
use Rattle.std.specs.Result.{IsErrAnd}
use Prim.Native.Nat.{ℕ, ◌*◌, ◌≤◌, ◌<◌}
use native.Mathlib.Omega.{arith}
use lib.Dec.{eqb}
use lib.ListN.{length}
use borrow.Author.Tests.{eq-eqb, ne_eqb, lt-ltb, le-ltb}
use Rattle.rules.specs.Bytes.{pick}
use Rattle.rules.specs.Image.{last_track, per_track, shape_right}
use Rattle.rules.specs.Refusals.{code}
use Rattle.rules.specs.declared.refusal.Refusal.{Refusal}
use Rattle.rules.specs.Outcome.{Outcome, refuse, unless, Out, out, left, settled}
use Rattle.rules.specs.Block.{block_at, function_in, activity_in, drive_in}
use Rattle.rules.specs.Call.{served, fits, misfit, checked, perform, asked, call}
use Rattle.laws.specs.Tests.{pick_all, clash}
use Rattle.disk.specs.declared.Shape.{Shape}
use Rattle.disk.specs.Loaded.{shape_of}
use Rattle.disk.specs.Shapes.{some_is, none-is}
use Rattle.laws.specs.Refusals.{code-some}
use Rattle.fms.specs.declared.function.Function.{Function}
use Rattle.fms.specs.Functions.{function_byte, code-is, no-function, Decodes, is-served}
use Rattle.fms.specs.Steps.{fault, Checked, on_shape}

-- a refusal leaves the image as it is, whatever it holds
told : (img tab tab' : List ℕ) (f x y e : ℕ) → out x y [] tab' ≡ left [] tab f (settled (refuse e)) → out x y img tab' ≡ left img tab f (settled (refuse e))
told img tab tab' f x y e h = cc

-- ---- the checks behind that of the shape

module _ (tab : List ℕ) (f : ℕ) {c : ℕ} (w : c ≡ function_in tab f) {r : Result Function Refusal} (d : Decodes c r) where
  pub not-served : {e : Refusal} → r ≡ Err e → code e ≡ fault tab f
  unfolding fault
  not-served h = let z = no-function c d h in rw (← w, z.0, z.1) refl

  pub found : {g : Function} → r ≡ Ok g → function_byte g ≡ function_in tab f
  found h = code-is c d h ∙ w

  module _ {g : Function} (h : r ≡ Ok g) {n : ℕ} (k : n ≡ drive_in tab f) where
    pub other-drive : (n ≡ 0 → ⊥) → 16 ≡ fault tab f
    unfolding fault
    other-drive m = rw (← w, is-served g (code-is c d h), ← k, ne_eqb n 0 m) refl

    module _ (m : n ≡ 0) {a : ℕ} (p : a ≡ activity_in tab f) {v : Bool} (q : v ≡ fits (function_byte g) a) where
      fault-is : fault tab f ≡ pick v 0 (misfit (function_byte g) a)
      unfolding fault
      fault-is = rw (← w, is-served g (code-is c d h), ← k, m, q, p, code-is c d h) refl

      pub not-taken : {e : ℕ} → v ≡ false → e ≡ misfit (function_byte g) a → e ≡ fault tab f
      not-taken t z = rw (fault-is, t) z

      pub taken : v ≡ true → fault tab f ≡ 0
      taken t = rw (fault-is, t) refl

-- what `?` hands on
pub handed_on : (tab : List ℕ) (f : ℕ) (r : Result Function Refusal) (e : Refusal) → IsErrAnd r (λ y. y ≡ e) → code e ≡ fault tab f → Checked tab f r
handed_on tab f (Ok g) e h k = absurd h
handed_on tab f (Err y) e h k = ap code h ∙ k

-- the rule's checks, as one
passes : (served drive fit : Bool) (m : ℕ) (o : Outcome) → 0 < m → pick served (pick drive (pick fit 0 m) 16) 1 ≡ 0 → unless served 1 (unless drive 16 (unless fit m o)) ≡ o
passes true true true m o l h = refl
passes true true false m o l h = absurd (omega (arith, l, h))
passes true false t m o l h = absurd (omega (arith, h))
passes false d t m o l h = absurd (omega (arith, h))

refuses : (served drive fit : Bool) (m : ℕ) (o : Outcome) (e : ℕ) → 0 < e → e ≡ pick served (pick drive (pick fit 0 m) 16) 1 → unless served 1 (unless drive 16 (unless fit m o)) ≡ refuse e
refuses true true true m o e l h = absurd (omega (arith, l, h))
refuses true true false m o e l h = rw h refl
refuses true false t m o e l h = rw h refl
refuses false d t m o e l h = rw h refl

misfit-some : (c a : ℕ) → 0 < misfit c a
unfolding misfit
misfit-some c a = pick_all (λ n. 0 < n) (eqb c 4) _ _ (pick_all (λ n. 0 < n) (eqb a 0) _ _ (omega arith) (omega arith)) (omega arith)

module _ (tab : List ℕ) (f : ℕ) where
  checked-fault : {r : Result Function Refusal} {e : Refusal} → Checked tab f r → r ≡ Err e → code e ≡ fault tab f
  checked-fault {r = Ok g} d h = clash (cc)
  checked-fault {r = Err y} d h = cc

  pub checked-function : {r : Result Function Refusal} {g : Function} → Checked tab f r → r ≡ Ok g → (function_byte g ≡ function_in tab f) × (fault tab f ≡ 0)
  checked-function {r = Ok y} d h = (let u : function_byte y ≡ function_in tab f = d.0 in cc, d.1)
  checked-function {r = Err e} d h = clash (cc)

module _ (img tab : List ℕ) (M S f b : ℕ) {r : Result Function Refusal} (d : Checked tab f r) where
  pub shape-refused : {e : Refusal} {tab' : List ℕ} {x y : ℕ} → r ≡ Err e → out x y [] tab' ≡ left [] tab f (settled (refuse (code e)))
      → out x y img tab' ≡ left img tab f (settled (on_shape img tab M S f b))
  unfolding on_shape fault
  shape-refused {e} {tab'} {x} {y} h q =
      rw (refuses (served (function_in tab f)) (eqb (drive_in tab f) 0) (fits (function_in tab f) (activity_in tab f)) (misfit (function_in tab f) (activity_in tab f)) (perform img tab M S f b) (code e) (code-some e) (checked-fault tab f d h)) (told img tab tab' f x y (code e) q)

  pub shape-passed : {g : Function} {o : Out} → r ≡ Ok g → o ≡ left img tab f (settled (perform img tab M S f b))
      → o ≡ left img tab f (settled (on_shape img tab M S f b))
  unfolding on_shape fault
  shape-passed h q = rw (passes (served (function_in tab f)) (eqb (drive_in tab f) 0) (fits (function_in tab f) (activity_in tab f)) (misfit (function_in tab f) (activity_in tab f)) (perform img tab M S f b) (misfit-some _ _) (checked-function tab f d h).1) q

-- ---- the shape

asked_is : (img tab : List ℕ) (f b : ℕ) → asked img tab f b ≡ pick (shape_right img) (on_shape img tab (last_track img) (per_track img) f b) (refuse 16)
unfolding asked checked on_shape
asked_is img tab f b = refl

module _ (img tab : List ℕ) (f b : ℕ) {z : Option Shape} (e : z ≡ shape_of img) where
  pub block-right : {s : Shape} {o : Out} → z ≡ Some s → o ≡ left img tab f (settled (on_shape img tab s.last s.per f b))
      → o ≡ left img tab f (settled (asked img tab f b))
  block-right r h = let w = some_is img e r in rw (asked_is, w.0, ← w.1, ← w.2) h

  pub block-wrong : {tab' : List ℕ} {x y : ℕ} → z ≡ None → out x y [] tab' ≡ left [] tab f (settled (refuse 16))
      → out x y img tab' ≡ left img tab f (settled (asked img tab f b))
  block-wrong {tab'} {x} {y} r h = rw (asked_is, none-is img e r) (told img tab tab' f x y 16 h)

-- ---- table and number

module _ (img tab : List ℕ) (n b : ℕ) where
  pub call-table : (length tab ≡ 2560 → ⊥) → out 13 0 img tab ≡ left img tab (block_at n) (call img tab n b)
  unfolding call
  call-table h = rw (ne_eqb (length tab) 2560 h) refl

  pub call-number : length tab ≡ 2560 → 8 ≤ n → out 13 0 img tab ≡ left img tab (block_at n) (call img tab n b)
  unfolding call
  call-number h k = rw (eq-eqb (length tab) 2560 h, le-ltb n 8 k) refl

  pub call-on : {f : ℕ} {o : Out} → length tab ≡ 2560 → n < 8 → f ≡ 320 * n → o ≡ left img tab f (settled (asked img tab f b)) → o ≡ left img tab (block_at n) (call img tab n b)
  unfolding call
  call-on {f} h k e d = rw (eq-eqb (length tab) 2560 h, lt-ltb n 8 k) (rw e at d)
