-- Names met, by a table: an entry is 0, or names a slot. A name is looked for from a place that its bytes give on, to the first entry that is 0.
-- A pass over slots that enters each live one's name so finds a name twice just where there are twins.
use Rattle.std.specs.Prelude.{Result, Ok, Err}
use Prim.{Unit, tt}
use Rattle.census_laws.specs.declared.Clash.{Clash}
use Rattle.census_laws.specs.declared.Clash.TheVariants.{Twice, Unknown}
use Rattle.std.specs.Prelude.{◌≡◌, Bool, get_or, set, replicate, eqb, ltb}
use Rattle.std.proofs.Math.Path.{refl, sym, ap}
use Rattle.std.proofs.Common.{◌∙◌, subst, arith, mod-lt, length-set, get_or-set_same, get_or-set_other, eq-eqb, ne_eqb, eqb-true, ltb-true}
use Rattle.std.proofs.Math.Bool.{true, false}
use mathlib.Core.List.{List, [], ◌∷◌}
use Prim.Native.Nat.{ℕ, zero, suc, ◌+◌, ◌-◌, ◌*◌, ◌/◌, ◌%◌, ◌≤◌, ◌<◌}
use Rattle.std.proofs.Math.Decide.{ℕ_discrete}
use Rattle.std.proofs.Math.ListN.{length, length-replicate}
use Rattle.rules.specs.Bytes.{pick, byte_at, word_at, part, over, one, zeros, same}
use Rattle.rules.specs.Directory.{live, named, member, directory, slots}
use Rattle.rules.specs.Census.{namesake, twins}
use Rattle.laws.specs.Tests.{clash, never, either, pick_all}
use Rattle.laws.specs.Each.{Each, each-so, member-here, member-there}
use Rattle.laws.specs.Bytes.{part_at, over-one, length_over, zeros-at, length-zeros, same_refl, same-eq}
use Rattle.laws.specs.Slots.{is_displacement, displacement-is, Row, rows_of}
use Rattle.laws.specs.Visits.{one_left, none_left}

-- ---- entries

-- a slot's code: ten to a sector. Its entry is that and 1
unfoldable pub code_of : ℕ → ℕ
code_of slot = 10 * (slot / 256) + slot % 256 / 24

unfoldable pub slot_of : ℕ → ℕ
slot_of e = 256 * ((e - 1) / 10) + 24 * ((e - 1) % 10) + 16

-- the entry of a slot names it
abbrev pub Coded : ℕ → Type 0
Coded o = slot_of (code_of o + 1) ≡ o

coded : (o : ℕ) → is_displacement (o % 256) ≡ true → Coded o
unfolding slot_of code_of
coded o d =
    let w = displacement-is (o % 256) d in
    let i : o % 256 ≡ 24 * (o % 256 / 24) + 16 = omega (arith, w) in
    let s : o % 256 / 24 < 10 = omega (arith, w) in
    go (o / 256) (o % 256 / 24) s (let q : o ≡ 256 * (o / 256) + o % 256 = omega arith in omega (arith, i, q))
  where
    go : (k i : ℕ) → i < 10 → o ≡ 256 * k + (24 * i + 16) → 256 * ((10 * k + i + 1 - 1) / 10) + 24 * ((10 * k + i + 1 - 1) % 10) + 16 ≡ o
    go k i h e =
        let a : (10 * k + i + 1 - 1) / 10 ≡ k = omega arith in
        let b : (10 * k + i + 1 - 1) % 10 ≡ i = omega arith in
        omega (arith, a, b)

pub slots-coded : (img : List ℕ) (M S : ℕ) → Each Coded (slots img M S)
slots-coded img M S =
    each-so (Row (λ (k : ℕ). Unit {0})) Coded (slots img M S) (λ o r. coded o r.1) (rows_of (λ (k : ℕ). Unit {0}) (directory img M S) (all (directory img M S)))
  where
    all : (ks : List ℕ) → Each (λ (k : ℕ). Unit {0}) ks
    all [] = tt
    all (k ∷ ks) = (tt, all ks)

-- ---- places

-- a number made of a name's eleven bytes. Any would do: it spreads names over the places
unfoldable pub mixed : List ℕ → ℕ
mixed name = word_at name 0 * 40503 + word_at name 2 * 30011 + word_at name 4 * 50021 + word_at name 6 * 60013 + word_at name 8 * 20011 + byte_at name 10 * 10007

-- the place of n from which a name is looked for, and the place behind a place
unfoldable pub first_place : ℕ → List ℕ → ℕ
first_place n name = pick (eqb n 0) 0 (mixed name % n)

unfoldable pub place_behind : ℕ → ℕ → ℕ
place_behind n at = pick (ltb (at + 1) n) (at + 1) 0

first-in : (n : ℕ) (name : List ℕ) → 0 < n → first_place n name < n
unfolding first_place
first-in n name h = rw (ne_eqb n 0 (λ e. omega arith)) (mod-lt (mixed name) h)

behind-in : (n at : ℕ) → 0 < n → place_behind n at < n
unfolding place_behind
behind-in n at h = go (ltb (at + 1) n) refl
  where
    go : (b : Bool) → ltb (at + 1) n ≡ b → pick b (at + 1) 0 < n
    go true e = ltb-true (at + 1) n e
    go false e = h

-- ---- a name looked for, at so many places of n from one on
unfoldable pub probe : List ℕ → ℕ → List ℕ → List ℕ → ℕ → ℕ → Result ℕ Clash
probe img n ms name zero at = Err Unknown
probe img n ms name (suc f) at =
    pick (eqb (get_or ms at 0) 0) (Ok at)
    (pick (same (part img (slot_of (get_or ms at 0)) 11) name) (Err Twice)
    (probe img n ms name f (place_behind n at)))

unfoldable pub spot : List ℕ → ℕ → List ℕ → List ℕ → Result ℕ Clash
spot img n ms name = probe img n ms name n (first_place n name)

-- ---- names entered

-- a pass's answer, and the table that it leaves
pub data Entered : Type 0 where
  entered : Result (Unit {0}) Clash → List ℕ → Entered

unfoldable pub noted : ℕ → List ℕ → ℕ → Entered
noted o ms at = pick (ltb (code_of o) 65535) (entered (Ok tt) (over ms (at + 0) (one (code_of o + 1)))) (entered (Err Unknown) ms)

abbrev pub on_spot : {A : Type 0} → Result ℕ Clash → (ℕ → A) → A → A → A
on_spot (Ok at) f t u = f at
on_spot (Err Twice) f t u = t
on_spot (Err Unknown) f t u = u

-- a slot's name, if it is live
unfoldable pub enter : List ℕ → ℕ → ℕ → List ℕ → Entered
enter img n o ms = pick (live img o) (on_spot (spot img n ms (part img o 11)) (λ at. noted o ms at) (entered (Err Twice) ms) (entered (Err Unknown) ms)) (entered (Ok tt) ms)

abbrev pub on_entered : Entered → (List ℕ → Entered) → Entered
on_entered (entered (Ok u) ms) f = f ms
on_entered (entered (Err x) ms) f = entered (Err x) ms

unfoldable pub entering : List ℕ → ℕ → List ℕ → List ℕ → Entered
entering img n [] ms = entered (Ok tt) ms
entering img n (o ∷ os) ms = on_entered (enter img n o ms) (λ ms'. entering img n os ms')

-- ---- a name looked for again, after an entry e was set at a place j that was free
module _ (img : List ℕ) (n : ℕ) (ms : List ℕ) (j e : ℕ) (free : get_or ms j 0 ≡ 0) (inside : j < length ms) (some : e ≡ 0 → ⊥) where
  -- a name that was found is found
  still : (name : List ℕ) (f at : ℕ) → probe img n ms name f at ≡ Err Twice → probe img n (set ms j e) name f at ≡ Err Twice
  unfolding probe
  still name zero at h = h
  still name (suc f) at h = go (ℕ_discrete at j) (still name f (place_behind n at))
    where
      more : (b c : Bool) (s t : Result ℕ Clash) → (s ≡ Err Twice → t ≡ (Err Twice)) → pick b (Ok at) (pick c (Err Twice) s) ≡ Err Twice → pick b (Ok at) (pick c (Err Twice) t) ≡ Err Twice
      more true c s t g k = k
      more false true s t g k = k
      more false false s t g k = g k

      go : Dec (at ≡ j) → (probe img n ms name f (place_behind n at) ≡ Err Twice → probe img n (set ms j e) name f (place_behind n at) ≡ (Err Twice))
          → pick (eqb (get_or (set ms j e) at 0) 0) (Ok at) (pick (same (part img (slot_of (get_or (set ms j e) at 0)) 11) name) (Err Twice) (probe img n (set ms j e) name f (place_behind n at))) ≡ Err Twice
      go (yes q) ih =
          let z : get_or ms at 0 ≡ 0 = ap (λ (i : ℕ). get_or ms i 0) q ∙ free in
          let w : Ok at ≡ (Err Twice) = sym (rw (eq-eqb (get_or ms at 0) 0 z) refl) ∙ h in
          clash (cc)
      go (no q) ih = rw (get_or-set_other ms j at e 0 q) (more (eqb (get_or ms at 0) 0) (same (part img (slot_of (get_or ms at 0)) 11) name) _ _ ih h)

  -- a name that had its free place there, and is that entry's, is found
  now-there : (name : List ℕ) → same (part img (slot_of e) 11) name ≡ true → (f at : ℕ) → probe img n ms name f at ≡ Ok j
      → probe img n (set ms j e) name f at ≡ Err Twice
  unfolding probe
  now-there name own zero at h = clash (cc)
  now-there name own (suc f) at h = go (ℕ_discrete at j) (now-there name own f (place_behind n at))
    where
      more : (b c : Bool) (s t : Result ℕ Clash) → (at ≡ j → ⊥) → (s ≡ Ok j → t ≡ (Err Twice)) → pick b (Ok at) (pick c (Err Twice) s) ≡ Ok j
          → pick b (Ok at) (pick c (Err Twice) t) ≡ Err Twice
      more true c s t q g k = absurd (q (cc))
      more false true s t q g k = refl
      more false false s t q g k = g k

      go : Dec (at ≡ j) → (probe img n ms name f (place_behind n at) ≡ Ok j → probe img n (set ms j e) name f (place_behind n at) ≡ (Err Twice))
          → pick (eqb (get_or (set ms j e) at 0) 0) (Ok at) (pick (same (part img (slot_of (get_or (set ms j e) at 0)) 11) name) (Err Twice) (probe img n (set ms j e) name f (place_behind n at))) ≡ Err Twice
      go (yes q) ih =
          let v : get_or (set ms j e) at 0 ≡ e = ap (λ (i : ℕ). get_or (set ms j e) i 0) q ∙ get_or-set_same ms j e 0 inside in
          rw (v, ne_eqb e 0 some, own) refl
      go (no q) ih = rw (get_or-set_other ms j at e 0 q) (more (eqb (get_or ms at 0) 0) (same (part img (slot_of (get_or ms at 0)) 11) name) _ _ q ih h)

-- a free place is one of n, and free
free-is : (img : List ℕ) (n : ℕ) (ms name : List ℕ) (f at j : ℕ) → at < n → probe img n ms name f at ≡ Ok j → (j < n) × (get_or ms j 0 ≡ 0)
unfolding probe
free-is img n ms name zero at j l h = clash (cc)
free-is img n ms name (suc f) at j l h =
    go (eqb (get_or ms at 0) 0) refl (same (part img (slot_of (get_or ms at 0)) 11) name) h (free-is img n ms name f (place_behind n at) j (behind-in n at (omega arith)))
  where
    go : (b : Bool) → eqb (get_or ms at 0) 0 ≡ b → (c : Bool) → pick b (Ok at) (pick c (Err Twice) (probe img n ms name f (place_behind n at))) ≡ Ok j
        → (probe img n ms name f (place_behind n at) ≡ Ok j → (j < n) × (get_or ms j 0 ≡ 0)) → (j < n) × (get_or ms j 0 ≡ 0)
    go true e c k ih = let q : at ≡ j = cc in (rw (← q) l, rw (← q) (eqb-true (get_or ms at 0) 0 e))
    go false e true k ih = clash (cc)
    go false e false k ih = ih k

-- a name is found at an entry that is its own
taken_is : {A : Type 0} (img : List ℕ) (n : ℕ) (ms name : List ℕ) (f at : ℕ) → probe img n ms name f at ≡ Err Twice
    → ((i : ℕ) → (get_or ms i 0 ≡ 0 → ⊥) → same (part img (slot_of (get_or ms i 0)) 11) name ≡ true → A) → A
unfolding probe
taken_is img n ms name zero at h g = clash (cc)
taken_is {A} img n ms name (suc f) at h g =
    go (eqb (get_or ms at 0) 0) refl (same (part img (slot_of (get_or ms at 0)) 11) name) refl h (λ k. taken_is img n ms name f (place_behind n at) k g)
  where
    go : (b : Bool) → eqb (get_or ms at 0) 0 ≡ b → (c : Bool) → same (part img (slot_of (get_or ms at 0)) 11) name ≡ c
        → pick b (Ok at) (pick c (Err Twice) (probe img n ms name f (place_behind n at))) ≡ Err Twice → (probe img n ms name f (place_behind n at) ≡ Err Twice → A) → A
    go true e c d k ih = clash (cc)
    go false e true d k ih = g at (λ z. never (sym e ∙ eq-eqb (get_or ms at 0) 0 z)) d
    go false e false d k ih = ih k

-- ---- the table ms of n entries after the slots ps: each live one's name is found, and each entry names a live one of them
record Table (img : List ℕ) (n : ℕ) (ms ps : List ℕ) : Type 0 where
  size : length ms ≡ n
  found : (p : ℕ) → member p ps ≡ true → live img p ≡ true → spot img n ms (part img p 11) ≡ Err Twice
  only : (i : ℕ) → (get_or ms i 0 ≡ 0 → ⊥) → (member (slot_of (get_or ms i 0)) ps ≡ true) × (live img (slot_of (get_or ms i 0)) ≡ true)

blank : (img : List ℕ) (n : ℕ) → Table img n (zeros n) []
unfolding member
blank img n = record { size = length-zeros n; found = λ p h l. absurd (never h); only = λ i h. absurd (h (zeros-at n i)) }

-- one more name
table_more : (img : List ℕ) (n : ℕ) (ms ps : List ℕ) (o j : ℕ) → Coded o → live img o ≡ true → spot img n ms (part img o 11) ≡ Ok j → Table img n ms ps
    → Table img n (over ms (j + 0) (one (code_of o + 1))) (o ∷ ps)
unfolding spot probe member
table_more img n ms ps o j c l h t =
    rw (let z : j + 0 ≡ j = omega arith in z, over-one ms j (code_of o + 1))
    (record { size = length-set ms j (code_of o + 1) ∙ t.size; found = was; only = names })
  where
    some : 0 < n
    some = go n refl h
      where
        go : (m : ℕ) → n ≡ m → probe img n ms (part img o 11) m (first_place n (part img o 11)) ≡ Ok j → 0 < n
        go zero e k = clash (cc)
        go (suc m) e k = omega arith

    free : (j < n) × (get_or ms j 0 ≡ 0)
    free = free-is img n ms (part img o 11) n (first_place n (part img o 11)) j (first-in n (part img o 11) some) h

    inside : j < length ms
    inside = omega (arith, free.0, t.size)

    was : (p : ℕ) → member p (o ∷ ps) ≡ true → live img p ≡ true → spot img n (set ms j (code_of o + 1)) (part img p 11) ≡ Err Twice
    was p m a =
        either (eqb o p) (member p ps) m
        (λ q. subst (λ (x : ℕ). spot img n (set ms j (code_of o + 1)) (part img x 11) ≡ (Err Twice)) (eqb-true o p q)
        (now-there img n ms j (code_of o + 1) free.1 inside (λ z. omega arith) (part img o 11) (rw c (same_refl (part img o 11))) n (first_place n (part img o 11)) h))
        (λ k. still img n ms j (code_of o + 1) free.1 inside (λ z. omega arith) (part img p 11) n (first_place n (part img p 11)) (t.found p k a))

    names : (i : ℕ) → (get_or (set ms j (code_of o + 1)) i 0 ≡ 0 → ⊥)
        → (member (slot_of (get_or (set ms j (code_of o + 1)) i 0)) (o ∷ ps) ≡ true) × (live img (slot_of (get_or (set ms j (code_of o + 1)) i 0)) ≡ true)
    names i z = go (ℕ_discrete i j)
      where
        go : Dec (i ≡ j) → (member (slot_of (get_or (set ms j (code_of o + 1)) i 0)) (o ∷ ps) ≡ true) × (live img (slot_of (get_or (set ms j (code_of o + 1)) i 0)) ≡ true)
        go (yes q) =
            let e = ap (λ (k : ℕ). slot_of (get_or (set ms j (code_of o + 1)) k 0)) q ∙ ap slot_of (get_or-set_same ms j (code_of o + 1) 0 inside) ∙ c in
            subst (λ (x : ℕ). (member x (o ∷ ps) ≡ true) × (live img x ≡ true)) (sym e) (member-here o ps, l)
        go (no q) =
            let e = get_or-set_other ms j i (code_of o + 1) 0 q in
            let r = t.only i (λ w. z (e ∙ w)) in
            subst (λ (x : ℕ). (member (slot_of x) (o ∷ ps) ≡ true) × (live img (slot_of x) ≡ true)) (sym e)
            (member-there (slot_of (get_or ms i 0)) o ps r.0, r.1)

-- ---- what a pass says: where it met no name twice, there are no twins, and no live slot that it had met before is a namesake
met-once : (img : List ℕ) (n : ℕ) (os ms ms' ps : List ℕ) → Each Coded os → Table img n ms ps → entering img n os ms ≡ entered (Ok tt) ms'
    → ((p : ℕ) → member p ps ≡ true → live img p ≡ true → namesake img p os ≡ false) × (twins img os ≡ false)
unfolding entering enter noted namesake twins named
met-once img n [] ms ms' ps c t h = (λ p m l. refl, refl)
met-once img n (o ∷ os) ms ms' ps c t h =
    go (live img o) refl (spot img n ms (part img o 11)) refl (ltb (code_of o) 65535) h (λ ms₁ ps₁ t₁ k. met-once img n os ms₁ ms' ps₁ c.1 t₁ k)
  where
    differ : (j p : ℕ) → spot img n ms (part img o 11) ≡ Ok j → member p ps ≡ true → live img p ≡ true → same (part img o 11) (part img p 11) ≡ false
    differ j p f m l = go (same (part img o 11) (part img p 11)) refl
      where
        go : (b : Bool) → same (part img o 11) (part img p 11) ≡ b → b ≡ false
        go true q =
            let w : Ok j ≡ (Err Twice) = sym f ∙ ap (spot img n ms) (same-eq (part img o 11) (part img p 11) q) ∙ t.found p m l in
            clash (cc)
        go false q = refl

    go : (a : Bool) → live img o ≡ a → (s : Result ℕ Clash) → spot img n ms (part img o 11) ≡ s → (b : Bool)
        → on_entered (pick a (on_spot s (λ at. pick b (entered (Ok tt) (over ms (at + 0) (one (code_of o + 1)))) (entered (Err Unknown) ms)) (entered (Err Twice) ms) (entered (Err Unknown) ms)) (entered (Ok tt) ms))
        (λ ms₁. entering img n os ms₁) ≡ entered (Ok tt) ms'
        → ((ms₁ ps₁ : List ℕ) → Table img n ms₁ ps₁ → entering img n os ms₁ ≡ entered (Ok tt) ms'
        → ((p : ℕ) → member p ps₁ ≡ true → live img p ≡ true → namesake img p os ≡ false) × (twins img os ≡ false))
        → ((p : ℕ) → member p ps ≡ true → live img p ≡ true → pick (pick a (same (part img o 11) (part img p 11)) false) true (namesake img p os) ≡ false)
        × (pick (pick a (namesake img o os) false) true (twins img os) ≡ false)
    go false e s f b k ih = ih ms ps t k
    go true e (Err Twice) f b k ih = clash (cc)
    go true e (Err Unknown) f b k ih = clash (cc)
    go true e (Ok j) f false k ih = clash (cc)
    go true e (Ok j) f true k ih =
        let r = ih (over ms (j + 0) (one (code_of o + 1))) (o ∷ ps) (table_more img n ms ps o j c.0 e f t) k in
        (λ p m l. rw (differ j p f m l) (r.0 p (member-there p o ps m) l), rw (r.0 o (member-here o ps) e) r.1)

-- and where it met one twice, there are twins, or such a namesake
met-twice : {A : Type 0} (img : List ℕ) (n : ℕ) (os ms ms' ps : List ℕ) → Each Coded os → Table img n ms ps → entering img n os ms ≡ entered (Err Twice) ms'
    → ((p : ℕ) → member p ps ≡ true → live img p ≡ true → namesake img p os ≡ true → A) → (twins img os ≡ true → A) → A
unfolding entering enter noted namesake twins named spot member
met-twice img n [] ms ms' ps c t h hit all = clash (cc)
met-twice {A} img n (o ∷ os) ms ms' ps c t h hit all =
    go (live img o) refl (spot img n ms (part img o 11)) refl (ltb (code_of o) 65535) h hit all (λ ms₁ ps₁ t₁ k. met-twice img n os ms₁ ms' ps₁ c.1 t₁ k)
  where
    own : (s : ℕ) → same (part img s 11) (part img o 11) ≡ true → same (part img o 11) (part img s 11) ≡ true
    own s q = rw (same-eq (part img s 11) (part img o 11) q) (same_refl (part img o 11))

    go : (a : Bool) → live img o ≡ a → (s : Result ℕ Clash) → spot img n ms (part img o 11) ≡ s → (b : Bool)
        → on_entered (pick a (on_spot s (λ at. pick b (entered (Ok tt) (over ms (at + 0) (one (code_of o + 1)))) (entered (Err Unknown) ms)) (entered (Err Twice) ms) (entered (Err Unknown) ms)) (entered (Ok tt) ms))
        (λ ms₁. entering img n os ms₁) ≡ entered (Err Twice) ms'
        → ((p : ℕ) → member p ps ≡ true → live img p ≡ true → pick (pick a (same (part img o 11) (part img p 11)) false) true (namesake img p os) ≡ true → A)
        → (pick (pick a (namesake img o os) false) true (twins img os) ≡ true → A)
        → ((ms₁ ps₁ : List ℕ) → Table img n ms₁ ps₁ → entering img n os ms₁ ≡ entered (Err Twice) ms'
        → ((p : ℕ) → member p ps₁ ≡ true → live img p ≡ true → namesake img p os ≡ true → A) → (twins img os ≡ true → A) → A)
        → A
    go false e s f b k hit all ih = ih ms ps t k hit all
    go true e (Err Twice) f b k hit all ih =
        taken_is img n ms (part img o 11) n (first_place n (part img o 11)) f
        (λ i z q. let r = t.only i z in hit (slot_of (get_or ms i 0)) r.0 r.1 (rw (own (slot_of (get_or ms i 0)) q) refl))
    go true e (Err Unknown) f b k hit all ih = clash (cc)
    go true e (Ok j) f false k hit all ih = clash (cc)
    go true e (Ok j) f true k hit all ih =
        ih (over ms (j + 0) (one (code_of o + 1))) (o ∷ ps) (table_more img n ms ps o j c.0 e f t) k
        (λ p m l q. either (eqb o p) (member p ps) m
        (λ w. all (rw (subst (λ (x : ℕ). namesake img x os ≡ true) (sym (eqb-true o p w)) q) refl))
        (λ w. hit p w l (pick_all (λ (x : Bool). x ≡ true) (same (part img o 11) (part img p 11)) true (namesake img p os) refl q)))
        (λ q. all (pick_all (λ (x : Bool). x ≡ true) (namesake img o os) true (twins img os) refl q))

-- so of all slots, from a table on that was cleared
module _ (img : List ℕ) (M S k : ℕ) (ms ms' : List ℕ) {r : Result (Unit {0}) Clash} (z : ms ≡ replicate k 0) (d : entered r ms' ≡ entering img (length ms) (slots img M S) ms) where
  cleared : {s : Result (Unit {0}) Clash} → r ≡ s → entering img k (slots img M S) (zeros k) ≡ entered s ms'
  unfolding zeros
  cleared e =
      ap (λ (l : List ℕ). entering img k (slots img M S) l) (sym z)
      ∙ ap (λ (m : ℕ). entering img m (slots img M S) ms) (sym (ap length z ∙ length-replicate {A = ℕ} k 0))
      ∙ sym d ∙ ap (λ (x : Result (Unit {0}) Clash). entered x ms') e

  pub seen-once : r ≡ Ok tt → false ≡ twins img (slots img M S)
  seen-once e = sym (met-once img k (slots img M S) (zeros k) ms' [] (slots-coded img M S) (blank img k) (cleared e)).1

  pub seen_twice : {x : Clash} → r ≡ Err x → x ≡ Twice → true ≡ twins img (slots img M S)
  unfolding member
  seen_twice e q =
      met-twice img k (slots img M S) (zeros k) ms' [] (slots-coded img M S) (blank img k) (cleared (e ∙ ap Err q)) (λ p m l w. absurd (never m)) (λ w. sym w)

-- ---- the table keeps its length
enter-kept : (img : List ℕ) (n o : ℕ) (ms ms' : List ℕ) {r : Result (Unit {0}) Clash} → entered r ms' ≡ enter img n o ms → length ms' ≡ length ms
unfolding enter noted
enter-kept img n o ms ms' {r} h = go (live img o) (spot img n ms (part img o 11)) (ltb (code_of o) 65535) h
  where
    go : (a : Bool) (s : Result ℕ Clash) (b : Bool)
        → entered r ms' ≡ pick a (on_spot s (λ at. pick b (entered (Ok tt) (over ms (at + 0) (one (code_of o + 1)))) (entered (Err Unknown) ms)) (entered (Err Twice) ms) (entered (Err Unknown) ms)) (entered (Ok tt) ms)
        → length ms' ≡ length ms
    go false s b k = let q : ms' ≡ ms = cc in ap length q
    go true (Err Twice) b k = let q : ms' ≡ ms = cc in ap length q
    go true (Err Unknown) b k = let q : ms' ≡ ms = cc in ap length q
    go true (Ok j) false k = let q : ms' ≡ ms = cc in ap length q
    go true (Ok j) true k = let q : ms' ≡ over ms (j + 0) (one (code_of o + 1)) = cc in ap length q ∙ length_over ms (j + 0) (one (code_of o + 1))

pub table_kept : (img : List ℕ) (n o : ℕ) (ms₀ ms ms' : List ℕ) {r : Result (Unit {0}) Clash} → entered r ms' ≡ enter img n o ms → length ms ≡ length ms₀ → length ms' ≡ length ms₀
table_kept img n o ms₀ ms ms' d h = enter-kept img n o ms ms' d ∙ h

-- ---- turn by turn: w is where the name is

pub word-part : (m : List ℕ) (at d : ℕ) → d + 1 < 11 → word_at m (at + d) ≡ word_at (part m at 11) d
unfolding word_at
word-part m at d h =
    let x : get_or (part m at 11) d 0 ≡ get_or m (at + d) 0 = part_at m at 11 d (omega arith) in
    let y : get_or (part m at 11) (d + 1) 0 ≡ get_or m (at + (d + 1)) 0 = part_at m at 11 (d + 1) h in
    let z : at + (d + 1) ≡ at + d + 1 = omega arith in
    rw (x, y, z) refl

pub spot-first : (img : List ℕ) (n : ℕ) (ms name : List ℕ) {at : ℕ} → at ≡ first_place n name → spot img n ms name ≡ probe img n ms name n at
unfolding spot
spot-first img n ms name e = rw e refl

module _ (img : List ℕ) (n : ℕ) (ms name : List ℕ) (f at : ℕ) {w : Result ℕ Clash} (v : w ≡ probe img n ms name f at) where
  pub probe-none : f ≤ 0 → Err Unknown ≡ w
  unfolding probe
  probe-none h = sym (v ∙ ap (λ (j : ℕ). probe img n ms name j at) (none_left f h))

  module _ {e : ℕ} (h : 0 < f) (q : e ≡ get_or ms at 0) where
    probe-more : w ≡ pick (eqb e 0) (Ok at) (pick (same (part img (slot_of e) 11) name) (Err Twice) (probe img n ms name (f - 1) (place_behind n at)))
    unfolding probe
    probe-more = rw q (v ∙ ap (λ (j : ℕ). probe img n ms name j at) (one_left f h))

    pub probe-free : e ≡ 0 → Ok at ≡ w
    probe-free k = rw (probe-more, eq-eqb e 0 k) refl

    module _ {b : Bool} (k : e ≡ 0 → ⊥) (t : b ≡ same (part img (slot_of e) 11) name) where
      pub probe-taken : b ≡ true → Err Twice ≡ w
      probe-taken l = rw (probe-more, ne_eqb e 0 k, ← t, l) refl

      pub probe-on : {p : ℕ} → b ≡ false → p ≡ place_behind n at → w ≡ probe img n ms name (f - 1) p
      probe-on l g = rw (probe-more, ne_eqb e 0 k, ← t, l, g) refl
