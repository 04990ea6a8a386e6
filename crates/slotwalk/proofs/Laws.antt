-- What the functions of this crate come to, way by way; and the passes, slot by slot: w is what the pass comes to.
use Rattle.std.specs.Prelude.{Option, Some, None, Result, Ok, Err, SomeIff, OkIff}
use Rattle.std.specs.Option.{unwrap_or}
use Rattle.std.specs.List.{list_any}
use Prim.{Unit, tt}
use Rattle.census_laws.specs.declared.Clash.{Clash}
use Rattle.census_laws.specs.declared.Clash.TheVariants.{Twice, Unknown}
use mathlib.Core.Path.{◌≡◌, refl, ap, ◌∙◌}
use mathlib.Core.Bool.{Bool, true, false, ◌||◌}
use mathlib.Core.List.{List, [], ◌∷◌}
use Prim.Native.Nat.{ℕ, ◌+◌, ◌-◌, ◌*◌, ◌%◌, ◌^◌, ◌≤◌, ◌<◌, min}
use native.Mathlib.Omega.{arith}
use lib.ListN.{length, get_or, replicate, length-replicate}
use lib.Dec.{ltb}
use Rattle.std.proofs.Math.Decide.{dec_lt}
use borrow.Author.Tests.{lt-ltb, le-ltb, eq-eqb, ne_eqb}
use mir.Syntax.{w32, w64}
use mir.Val.{Fits}
use Rattle.rules.specs.Bytes.{pick, ◌or◌, word_at, part, over, one, same}
use Rattle.rules.specs.Directory.{live, named, size_at}
use Rattle.rules.specs.Census.{namesake, twins, file_owners}
use Rattle.laws.specs.Bytes.{part_at, over_none, over-append}
use Rattle.census_laws.specs.Limits.{few-data}
use Rattle.census_laws.specs.Numbered.{number_behind, files_numbered}
use Rattle.census_laws.specs.Table.{code_of, slot_of, mixed, first_place, place_behind, probe, spot, spot-first, probe-none, probe-free, probe-taken, probe-on, Entered, entered, noted, enter, entering, word-part}
use Rattle.census_laws.specs.Walks.{Laid, laid, sector, sectors, sector-most, file, files, file-many}

-- ---- two live slots with one name

pub any_namesake : (img : List ℕ) (this : ℕ) (os : List ℕ) → list_any (named img (part img this 11)) os ≡ namesake img this os
unfolding namesake
any_namesake img this [] = refl
any_namesake img this (o ∷ os) = go (named img (part img this 11) o) (any_namesake img this os)
  where
    go : (t : Bool) → list_any (named img (part img this 11)) os ≡ namesake img this os → (t || list_any (named img (part img this 11)) os) ≡ t or namesake img this os
    go true h = refl
    go false h = h

-- a choice by whether a slot is live
module _ {A : Type 0} (img : List ℕ) (o : ℕ) (x y : A) {a : Bool} (q : a ≡ live img o) where
  pub if-dead : a ≡ false → y ≡ pick (live img o) x y
  if-dead t = rw (← q, t) refl

  pub if-live : {r : A} → a ≡ true → r ≡ x → r ≡ pick (live img o) x y
  if-live t d = rw (← q, t) d

module _ (img : List ℕ) (o : ℕ) {os ps : List ℕ} {w a : Bool} (v : w ≡ twins img os) (e : os ≡ o ∷ ps) (q : a ≡ pick (live img o) (namesake img o ps) false) where
  pub twins-here : a ≡ true → true ≡ w
  unfolding twins
  twins-here t = rw (v, e, ← q, t) refl

  pub twins-next : a ≡ false → w ≡ twins img ps
  unfolding twins
  twins-next t = rw (v, e, ← q, t) refl

-- ---- names entered in a table

-- a name's number, from what was loaded
pub mixed-is : (img : List ℕ) (slot : ℕ) {a b c d e f : ℕ} → a ≡ word_at img slot → b ≡ word_at img (slot + 2) → c ≡ word_at img (slot + 4) → d ≡ word_at img (slot + 6)
    → e ≡ word_at img (slot + 8) → f ≡ get_or img (slot + 10) 0
    → a * 40503 + b * 30011 + c * 50021 + d * 60013 + e * 20011 + f * 10007 ≡ mixed (part img slot 11)
unfolding mixed
mixed-is img slot {a} {b} {c} {d} {e} {f} p q r s t u =
    let p₁ : a ≡ word_at (part img slot 11) 0 = p ∙ ap (word_at img) (let z : slot ≡ slot + 0 = omega arith in z) ∙ word-part img slot 0 (omega arith) in
    rw (p₁, q, r, s, t, u, word-part img slot 2 (omega arith), word-part img slot 4 (omega arith), word-part img slot 6 (omega arith), word-part img slot 8 (omega arith), part_at img slot 11 10 (omega arith)) refl

pub place-is : (n : ℕ) (name : List ℕ) (r : Option ℕ) {x : ℕ} → SomeIff r (0 < n) (x % n) → x ≡ mixed name → unwrap_or r 0 ≡ first_place n name
unfolding first_place
place-is n name None h e = rw (eq-eqb n 0 (omega (arith, h))) refl
place-is n name (Some y) h e = rw (ne_eqb n 0 (λ z. omega (arith, h.0)), ← e) h.1

module _ (n at : ℕ) (f : Fits w64 n) {b : ℕ} (q : b ≡ min (at + 1) (2 ^ 64 - 1)) where
  pub behind-on : b < n → b ≡ place_behind n at
  unfolding place_behind
  behind-on h = rw (lt-ltb (at + 1) n (omega (arith, f))) (omega (arith, f))

  pub behind-round : n ≤ b → 0 ≡ place_behind n at
  unfolding place_behind
  behind-round h = rw (le-ltb (at + 1) n (omega (arith, f))) refl

module _ (o : ℕ) (ms : List ℕ) (at : ℕ) {c : ℕ} (p : c ≡ code_of o) where
  pub code-fit : Fits w32 o → Fits w32 (c + 1)
  unfolding code_of
  code-fit f = record { fits = omega (arith, f, p) }

  module _ {E : Type 0} where
    pub note-large : (r : Result ℕ E) → OkIff r (c + 1 < 2 ^ 16) (c + 1) → ((n : ℕ) → r ≡ Ok n → ⊥) → entered (Err Unknown) ms ≡ noted o ms at
    unfolding noted
    note-large (Ok n) h k = absurd (k n refl)
    note-large (Err x) h k = rw (← p, le-ltb c 65535 (omega (arith, h))) refl

    pub note-done : (r : Result ℕ E) {n : ℕ} {ms' : List ℕ} → OkIff r (c + 1 < 2 ^ 16) (c + 1) → r ≡ Ok n → ms' ≡ over ms (at + 0) (one n) → entered (Ok tt) ms' ≡ noted o ms at
    unfolding noted
    note-done r h e d = let q = rw e at h in rw (← p, lt-ltb c 65535 (omega (arith, q.0)), ← q.1, d) refl

module _ (img : List ℕ) (n o : ℕ) (ms : List ℕ) {a : Bool} (q : a ≡ live img o) where
  pub enter-dead : a ≡ false → entered (Ok tt) ms ≡ enter img n o ms
  unfolding enter
  enter-dead t = rw (← q, t) refl

  module _ {s : Result ℕ Clash} (t : a ≡ true) (d : s ≡ spot img n ms (part img o 11)) where
    pub enter-free : {at : ℕ} {w : Entered} → s ≡ Ok at → w ≡ noted o ms at → w ≡ enter img n o ms
    unfolding enter
    enter-free k e = rw (← q, t, ← d, k) e

    pub enter-clash : {x : Clash} → s ≡ Err x → entered (Err x) ms ≡ enter img n o ms
    unfolding enter
    enter-clash {x = Twice} k = rw (← q, t, ← d, k) refl
    enter-clash {x = Unknown} k = rw (← q, t, ← d, k) refl

module _ (img : List ℕ) (m o : ℕ) (ms : List ℕ) {os ps : List ℕ} {w : Entered} (v : w ≡ entering img m os ms) {r : Result (Unit {0}) Clash} {ms' : List ℕ} (e : os ≡ o ∷ ps)
    (d : entered r ms' ≡ enter img m o ms) where
  pub enters-clash : {x : Clash} → r ≡ Err x → entered (Err x) ms' ≡ w
  unfolding entering
  enters-clash t = rw (v, e, ← d, t) refl

  pub enters-next : {u : Unit {0}} → r ≡ Ok u → w ≡ entering img m ps ms'
  unfolding entering
  enters-next t = rw (v, e, ← d, t) refl

-- ---- files listed

module _ (img : List ℕ) (M S o : ℕ) (out : List ℕ) (at : ℕ) {os ps : List ℕ} {w : Laid} (v : w ≡ files img M S os out at) {r : Option ℕ} {out' : List ℕ} (e : os ≡ o ∷ ps)
    (d : laid r out' ≡ file img M S o out at) where
  pub files-wrong : r ≡ None → laid None out' ≡ w
  unfolding files
  files-wrong t = rw (v, e, ← d, t) refl

  pub files-next : {m : ℕ} → r ≡ Some m → w ≡ files img M S ps out' (at + m)
  unfolding files
  files-next t = rw (v, e, ← d, t) refl

-- a file's list goes on by less than 65,536
module _ (img : List ℕ) (M S o : ℕ) (out out' : List ℕ) (at : ℕ) {r : Option ℕ} {m : ℕ} {os ps : List ℕ} (d : laid r out' ≡ file img M S o out at) (e : os ≡ o ∷ ps)
    (t : r ≡ Some m) (h : M < 256) (k : S < 256) (b : at + 65536 * length os ≤ 47244640256) where
  pub files-place : at + m + 65536 * length ps ≤ 47244640256
  files-place = omega (arith, file-many img M S o out out' at m d t, few-data M S h k, ap length e)

  pub files-fit : Fits w64 (at + m)
  files-fit = record { fits = omega (arith, files-place) }

-- ---- owners

owners-are : (img : List ℕ) (o k : ℕ) → file_owners img o k ≡ replicate (pick (live img o) (size_at img o) 0) k
unfolding file_owners
owners-are img o k = go (live img o)
  where
    go : (b : Bool) → pick b (replicate (size_at img o) k) [] ≡ replicate (pick b (size_at img o) 0) k
    go true = refl
    go false = refl

number-is : (k : ℕ) → min (k + 1) (2 ^ 16 - 1) ≡ number_behind k
unfolding number_behind
number-is k = go (dec_lt k 65535)
  where
    go : Dec (k < 65535) → min (k + 1) (2 ^ 16 - 1) ≡ pick (ltb k 65535) (k + 1) 65535
    go (yes h) = rw (lt-ltb k 65535 h) (omega arith)
    go (no h) = rw (le-ltb k 65535 (omega arith)) (omega arith)

module _ (img : List ℕ) (k : ℕ) (out : List ℕ) (at : ℕ) {os : List ℕ} {w : List ℕ} (v : w ≡ over out at (files_numbered img k os)) where
  pub own-none : os ≡ [] → out ≡ w
  unfolding files_numbered
  own-none h = rw (v, h) (over_none out at [])

  pub own-next : {o m j : ℕ} {ps out' : List ℕ} → os ≡ o ∷ ps → j ≡ min (k + 1) (2 ^ 16 - 1) → m ≡ pick (live img o) (size_at img o) 0 → out' ≡ over out at (replicate m k)
      → w ≡ over out' (at + m) (files_numbered img j ps)
  unfolding files_numbered
  own-next {o} {m} {j} {ps} e u q d =
      rw (v, e, owners-are img o k, ← q, u, number-is k, over-append out at (replicate m k) (files_numbered img (number_behind k) ps), length-replicate, ← d) refl

-- ---- a name's place looked for, i places behind the first

pub spot-begins : (img : List ℕ) (n : ℕ) (ms name : List ℕ) {at : ℕ} → at ≡ first_place n name → spot img n ms name ≡ probe img n ms name (n - 0) at
spot-begins img n ms name {at} e = spot-first img n ms name e ∙ ap (λ (j : ℕ). probe img n ms name j at) (omega arith)

module _ (img : List ℕ) (n : ℕ) (ms name : List ℕ) (i at : ℕ) {w : Result ℕ Clash} (v : w ≡ probe img n ms name (n - i) at) where
  pub probed_all : n ≤ i → Err Unknown ≡ w
  probed_all h = probe-none img n ms name (n - i) at v (omega arith)

  module _ {e : ℕ} (h : i < n) (q : e ≡ get_or ms at 0) where
    pub probed-free : e ≡ 0 → Ok at ≡ w
    probed-free z = probe-free img n ms name (n - i) at v (omega arith) q z

    module _ {b : Bool} (z : e ≡ 0 → ⊥) (d : b ≡ same (part img (slot_of e) 11) name) where
      pub probed-taken : b ≡ true → Err Twice ≡ w
      probed-taken k = probe-taken img n ms name (n - i) at v (omega arith) q z d k

      pub probed-on : {p : ℕ} → b ≡ false → p ≡ place_behind n at → w ≡ probe img n ms name (n - (i + 1)) p
      probed-on {p} k g = probe-on img n ms name (n - i) at v (omega arith) q z d k g ∙ ap (λ (j : ℕ). probe img n ms name j p) (omega arith)

-- ---- the directory's sectors listed: the next of some, and how many there are then

pub listed-next : (S k : ℕ) (out : List ℕ) (at i j : ℕ) {ks js out' : List ℕ} {w : Laid} → w ≡ sectors S ks out at i → ks ≡ k ∷ js → laid (Some j) out' ≡ sector S k out at i
    → w ≡ sectors S js out' at j
unfolding sectors
listed-next S k out at i j v e d = rw (v, e, ← d) refl

pub listed-many : (S k : ℕ) (out out' : List ℕ) (at i j : ℕ) {ks js : List ℕ} {most : ℕ} → laid (Some j) out' ≡ sector S k out at i → ks ≡ k ∷ js → i + length ks ≤ most → j + length js ≤ most
listed-many S k out out' at i j d e b = omega (arith, (sector-most S k out at i d).0, ap length e)
