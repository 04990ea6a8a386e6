-- Laws that the proofs of this crate cite: what each way out of a function comes to.
use mathlib.Core.Path.{◌≡◌, refl, sym, ap, ◌∙◌}
use mathlib.Core.Bool.{Bool, true, false, ◌&&◌}
use mathlib.Core.Logic.{◌⊎◌, inl, inr}
use mathlib.Core.List.{List, []}
use Prim.Native.Nat.{ℕ, zero, suc, ◌+◌, ◌*◌, ◌/◌, ◌%◌, ◌≤◌, ◌<◌}
use native.Mathlib.Numerals.{add-one}
use native.Mathlib.Omega.{arith}
use Rattle.std.proofs.Math.Decide.{dec_lt}
use mir.Syntax.{w16, w64}
use mir.Val.{Fits}
use lib.Dec.{eqb, leb}
use lib.ListN.{length, get_or}
use borrow.Author.Tests.{eq-eqb, ne_eqb, le-leb, lt-leb, lt-ltb, le-ltb}
use Rattle.std.specs.Prelude.{◌≢◌, Option, Some, None, Result, Ok, Err, slice_get}
use Rattle.std.proofs.lemmas.Option.{slice_get-get_or, slice_get_within, get_or_from_slice_get}
use Rattle.laws.specs.Tests.{pick_all}
use Rattle.laws.specs.Effects.{presettable-is}
use Rattle.rules.specs.Bytes.{pick, within, part, over, one, two, same}
use Rattle.rules.specs.Image.{address_of}
use Rattle.rules.specs.Directory.{place_of}
use Rattle.rules.specs.declared.refusal.Refusal.{Refusal}
use Rattle.rules.specs.Outcome.{Effect, Out, out, left}
use Rattle.rules.specs.Block.{activity_in, counts, uses, used_below, idle, on_table, presettable, preset_in, extensions, extension_in}
use Rattle.blocks.specs.declared.activity.Activity.{Activity}
use Rattle.blocks.specs.declared.activity.Activity.TheVariants.{Closed, Reading, Writing, Directory}
use Rattle.blocks.specs.Activities.{activity_byte, byte-is, no-byte, Decodes}

same-pick : (b : Bool) → b ≡ pick b true false
same-pick true = refl
same-pick false = refl

none-pick : (b : Bool) → false ≡ pick b false false
none-pick true = refl
none-pick false = refl

-- ---- which activities count, which are idle

module _ (readers : Bool) {a : Activity} where
  pub counts-writer : a ≡ Writing → true ≡ counts readers (activity_byte a)
  unfolding counts
  counts-writer h = rw h refl

  pub counts-reader : a ≡ Reading → readers ≡ counts readers (activity_byte a)
  unfolding counts
  counts-reader h = rw h (same-pick readers)

  pub counts-other : (a ≡ Closed) ⊎ (a ≡ Directory) → false ≡ counts readers (activity_byte a)
  unfolding counts
  counts-other (inl h) = rw h (none-pick readers)
  counts-other (inr h) = rw h (none-pick readers)

counts-none : (readers : Bool) {byte : ℕ} → ((a : Activity) → activity_byte a ≢ byte) → false ≡ counts readers byte
unfolding counts
counts-none readers {byte} z = rw (ne_eqb byte 2 (λ k. z Writing (sym k)), ne_eqb byte 1 (λ k. z Reading (sym k))) (none-pick readers)

pub is-idle : {a : Activity} → (a ≡ Closed) ⊎ (a ≡ Directory) → true ≡ idle (activity_byte a)
unfolding idle
is-idle (inl h) = rw h refl
is-idle (inr h) = rw h refl

pub not-idle : {a : Activity} → (a ≡ Closed → ⊥) → (a ≡ Directory → ⊥) → false ≡ idle (activity_byte a)
unfolding idle
not-idle {a = Closed} h k = absurd (h refl)
not-idle {a = Reading} h k = refl
not-idle {a = Writing} h k = refl
not-idle {a = Directory} h k = absurd (k refl)

-- ---- a place compared with a slot's: its three bytes
three-same : (a b c : Bool) → (a && (b && (c && true))) ≡ pick a (pick b (pick c true false) false) false
three-same false b c = refl
three-same true false c = refl
three-same true true false = refl
three-same true true true = refl

two-on : (n : ℕ) → n + 2 ≡ n + 1 + 1
two-on n = omega arith

pub place-is : (tab : List ℕ) (S at slot : ℕ)
    → (eqb (get_or tab at 0) (address_of S (slot / 256) / 256 % 256) && (eqb (get_or tab (at + 1) 0) (address_of S (slot / 256) % 256) && (eqb (get_or tab (at + 2) 0) (slot % 256) && true)))
    ≡ same (part tab at 3) (place_of S slot)
unfolding part same place_of two one
place-is tab S at slot =
    rw (two-on at) (three-same (eqb (get_or tab at 0) (address_of S (slot / 256) / 256 % 256)) (eqb (get_or tab (at + 1) 0) (address_of S (slot / 256) % 256))
    (eqb (get_or tab (at + 1 + 1) 0) (slot % 256)))

-- ---- a block that uses a place

module _ (readers : Bool) (tab place : List ℕ) (n : ℕ) {x : Result Activity Refusal} (p : Decodes (get_or tab (320 * n + 2) 0) x) where
  module _ {a : Activity} {r : Bool} (e : x ≡ Ok a) (q : r ≡ counts readers (activity_byte a)) where
    pub uses-not : r ≡ false → r ≡ uses readers tab place n
    unfolding uses
    uses-not k = rw (← byte-is _ p e, ← q, k) refl

    pub uses-same : {o : Bool} → r ≡ true → o ≡ same (part tab (320 * n + 47) 3) place → o ≡ uses readers tab place n
    unfolding uses
    uses-same k d = rw (← byte-is _ p e, ← q, k) d

  pub uses-none : {y : Refusal} → x ≡ Err y → false ≡ uses readers tab place n
  unfolding uses
  uses-none e = rw (← counts-none readers (no-byte _ p e).1) refl

-- ---- the eight blocks: does one below m, or n itself, use the place?

module _ (readers : Bool) (tab place : List ℕ) where
  pub used-here : (n m : ℕ) {r : Bool} → r ≡ uses readers tab place n → r ≡ true → n < m → true ≡ used_below readers tab place m
  unfolding used_below
  used-here n zero e k h = absurd (omega arith)
  used-here n (suc m) e k h = go (uses readers tab place m) refl (dec_lt n m) (used-here n m e k)
    where
      go : (b : Bool) → uses readers tab place m ≡ b → Dec (n < m) → (n < m → true ≡ used_below readers tab place m) → true ≡ pick b true (used_below readers tab place m)
      go true q d f = refl
      go false q (yes d) f = f d
      go false q (no d) f = let s : n ≡ m = omega arith in let z : true ≡ false = sym k ∙ e ∙ ap (uses readers tab place) s ∙ q in cc

  pub used_on : (n : ℕ) {r : Bool} → false ≡ used_below readers tab place n → r ≡ uses readers tab place n → r ≡ false → false ≡ used_below readers tab place (n + 1)
  unfolding used_below
  used_on n v e k = rw (add-one n, ← e, k) v

-- ---- preset

module _ (tab : List ℕ) (f : ℕ) {x : Result Activity Refusal} (p : Decodes (activity_in tab f) x) where
  pub idle-ok : {a : Activity} {r : Bool} → x ≡ Ok a → r ≡ idle (activity_byte a) → r ≡ idle (activity_in tab f)
  idle-ok e q = rw (← byte-is _ p e) q

  pub idle-none : {y : Refusal} → x ≡ Err y → false ≡ idle (activity_in tab f)
  unfolding idle
  idle-none e = let z = no-byte _ p e in rw (ne_eqb _ 0 (λ k. z.1 Closed (sym k)), ne_eqb _ 16 (λ k. z.1 Directory (sym k))) refl

-- the offsets: the three runs that may be preset, and the four gaps around them
module _ (lo hi i : ℕ) where
  in-run : lo ≤ i → i < suc hi → within lo hi i ≡ true
  unfolding within
  in-run h k = rw (le-leb lo i h, le-leb i hi (omega arith)) refl

  before-run : i < lo → within lo hi i ≡ false
  unfolding within
  before-run h = rw (lt-leb lo i h) refl

  past-run : hi < i → within lo hi i ≡ false
  unfolding within
  past-run h = pick_all (λ (b : Bool). b ≡ false) (leb lo i) (leb i hi) false (lt-leb i hi h) refl

module _ (i : ℕ) where
  pub gap-1 : i < 3 → false ≡ presettable i
  unfolding presettable
  gap-1 h = rw (before-run 3 27 i h, before-run 30 31 i (omega arith), before-run 53 319 i (omega arith)) refl

  pub run-1 : 3 ≤ i → i < 28 → true ≡ presettable i
  unfolding presettable
  run-1 h k = rw (in-run 3 27 i h k) refl

  pub gap-2 : 28 ≤ i → i < 30 → false ≡ presettable i
  unfolding presettable
  gap-2 h k = rw (past-run 3 27 i h, before-run 30 31 i k, before-run 53 319 i (omega arith)) refl

  pub run-2 : 30 ≤ i → i < 32 → true ≡ presettable i
  unfolding presettable
  run-2 h k = rw (past-run 3 27 i (omega arith), in-run 30 31 i h k) refl

  pub gap-3 : 32 ≤ i → i < 53 → false ≡ presettable i
  unfolding presettable
  gap-3 h k = rw (past-run 3 27 i (omega arith), past-run 30 31 i h, before-run 53 319 i k) refl

  pub run-3 : 53 ≤ i → i < 320 → true ≡ presettable i
  unfolding presettable
  run-3 h k = rw (past-run 3 27 i (omega arith), past-run 30 31 i (omega arith), in-run 53 319 i h k) refl

  pub gap-4 : 320 ≤ i → false ≡ presettable i
  unfolding presettable
  gap-4 h = rw (past-run 3 27 i (omega arith), past-run 30 31 i (omega arith), past-run 53 319 i h) refl

pub ruleset offsets = (gap-1, run-1, gap-2, run-2, gap-3, run-3, gap-4)

pub preset-fits : (f i : ℕ) {r : Bool} → Fits w16 f → r ≡ presettable i → r ≡ true → Fits w64 (f + i)
preset-fits f i h e k = let l : i < 320 = presettable-is i (sym e ∙ k) in record { fits = omega arith }

module _ (tab : List ℕ) (f i v : ℕ) where
  pub preset-function : {tab' : List ℕ} → i ≡ 0 → tab' ≡ over tab (f + i) (one v) → out 0 0 [] tab' ≡ left [] tab f (preset_in tab f i v)
  unfolding preset_in
  preset-function k e = rw (eq-eqb i 0 k, e) refl

  module _ {r : Bool} (n : i ≡ 0 → ⊥) (q : r ≡ presettable i) where
    pub preset-never : r ≡ false → out 18 0 [] tab ≡ left [] tab f (preset_in tab f i v)
    unfolding preset_in
    preset-never k = rw (ne_eqb i 0 n, ← q, k) refl

    module _ {o : Bool} (k : r ≡ true) (e : o ≡ idle (activity_in tab f)) where
      pub preset-busy : o ≡ false → out 18 0 [] tab ≡ left [] tab f (preset_in tab f i v)
      unfolding preset_in
      preset-busy l = rw (ne_eqb i 0 n, ← q, k, ← e, l) refl

      pub preset-byte : {tab' : List ℕ} → o ≡ true → tab' ≡ over tab (f + i) (one v) → out 0 0 [] tab' ≡ left [] tab f (preset_in tab f i v)
      unfolding preset_in
      preset-byte l d = rw (ne_eqb i 0 n, ← q, k, ← e, l, d) refl

-- ---- default extension

twelve : length extensions ≡ 12
unfolding extensions
twelve = refl

module _ (tab : List ℕ) (f code : ℕ) {o : Bool} (e : o ≡ idle (activity_in tab f)) where
  pub extension-busy : o ≡ false → out 0 0 [] tab ≡ left [] tab f (extension_in tab f code)
  unfolding extension_in
  extension-busy l = rw (← e, l) refl

  module _ {b : ℕ} (l : o ≡ true) (q : b ≡ get_or tab (f + 12) 0) where
    pub extension-there : (b ≡ 0 → ⊥) → out 0 0 [] tab ≡ left [] tab f (extension_in tab f code)
    unfolding extension_in
    extension-there n = rw (← e, l, ← q, ne_eqb b 0 n) refl

    module _ (n : b ≡ 0) {x : Option (List ℕ)} (k : x ≡ slice_get extensions code) where
      pub extension-no-code : x ≡ None → out 0 0 [] tab ≡ left [] tab f (extension_in tab f code)
      unfolding extension_in
      extension-no-code h = go (dec_lt code 12)
        where
          go : Dec (code < 12) → out 0 0 [] tab ≡ left [] tab f (extension_in tab f code)
          go (yes u) = let z : None ≡ Some (get_or extensions code []) = sym h ∙ k ∙ slice_get-get_or extensions code [] (omega (arith, twelve)) in cc
          go (no u) = rw (← e, l, ← q, eq-eqb b 0 n, le-ltb code 12 (omega arith)) refl

      pub extension-set : {y tab' : List ℕ} → x ≡ Some y → tab' ≡ over tab (f + 12) y → out 0 0 [] tab' ≡ left [] tab f (extension_in tab f code)
      unfolding extension_in
      extension-set {y} h d =
          let g : slice_get extensions code ≡ Some y = sym k ∙ h in
          let u : code < 12 = omega (arith, twelve, slice_get_within extensions code y g) in
          rw (← e, l, ← q, eq-eqb b 0 n, lt-ltb code 12 u, get_or_from_slice_get extensions code y [] g, d) refl

-- ---- the table and the number

-- "Both give 13 first for table or number"
module _ (tab : List ℕ) (n f : ℕ) (e : Effect) where
  pub table-wrong : (length tab ≡ 2560 → ⊥) → out 13 0 [] tab ≡ left [] tab f (on_table tab n e)
  table-wrong h = rw (ne_eqb (length tab) 2560 h) refl

  pub number-wrong : length tab ≡ 2560 → 8 ≤ n → out 13 0 [] tab ≡ left [] tab f (on_table tab n e)
  number-wrong h k = rw (eq-eqb (length tab) 2560 h, le-ltb n 8 k) refl

  pub table-right : {o : Out} → length tab ≡ 2560 → n < 8 → o ≡ left [] tab f e → o ≡ left [] tab f (on_table tab n e)
  table-right h k d = rw (eq-eqb (length tab) 2560 h, lt-ltb n 8 k) d
