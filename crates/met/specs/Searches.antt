-- Searches of the directory and blocks in use: what the rules find is what the ledger says.
use Rattle.std.specs.Prelude.{◌≡◌, ◌≢◌, Bool, List, [], ◌∷◌, length, get_or, set, Result, Ok, Err}
use Rattle.std.proofs.Math.Path.{refl}
use Rattle.std.proofs.Common.{sym, ap, ◌∙◌, subst, arith}
use Rattle.std.proofs.Math.Bool.{true, false}
use Prim.Native.Nat.{ℕ, zero, suc, ◌+◌, ◌≤◌, ◌<◌}
use Rattle.std.proofs.Math.Decide.{ℕ_discrete}
use Rattle.std.proofs.lemmas.Bool.{eqb-false, not-true}
use Rattle.rules.specs.Bytes.{pick, part}
use Rattle.rules.specs.Names.{legal}
use Rattle.rules.specs.Directory.{slots_of, never_used, deleted, live, scan, named, vacant, find, vacancy, place_of, attributes_at}
use Rattle.rules.specs.Block.{counts, uses, used_below, in_use}
use Rattle.rules.specs.declared.NoSlot.{NoSlot}
use Rattle.rules.specs.declared.NoSlot.TheVariants.{Missing}
use Rattle.laws.specs.Bytes.{part-head, part_at, part_same, part-all, length_part, same-eq}
use Rattle.laws.specs.Slots.{live_at}
use Rattle.laws.specs.Addresses.{Shape}
use Rattle.laws.specs.Tests.{both}
use Rattle.chains.specs.Addresses.{absurd-bool}
use Rattle.chains.specs.Directory.{directory-is, places_same}
use Rattle.demands.specs.Ledger.{File, no_file, Block, closed, listing, reading, writing, Ledger, Sought, nowhere, slot, later, seek, file_named, vacant_slot, holds_open, busy, attributes}
use Rattle.met.specs.Relation.{opens, writes, Keeps, Agrees}

-- ---- bytes of a part

pub part-part : (m : List ℕ) (p n i k : ℕ) → i + k ≤ n → part (part m p n) i k ≡ part m (p + i) k
part-part m p n i k h =
    part_same m (part m p n) (p + i) i k (λ j b. part_at m p n (i + j) (omega arith) ∙ ap (λ (x : ℕ). get_or m x 0) (omega arith))

-- a name is legal by its eleven bytes
pub legal-part : (m : List ℕ) (p : ℕ) → legal m p ≡ legal (part m p 11) 0
unfolding legal
legal-part m p =
    let e : part (part m p 11) 0 8 ≡ part m p 8 = part-part m p 11 0 8 (omega arith) ∙ ap (λ (x : ℕ). part m x 8) (omega arith) in
    let f : part (part m p 11) (0 + 8) 3 ≡ part m (p + 8) 3 = part-part m p 11 8 3 (omega arith) in
    rw (e, f) refl

-- ---- what a slot's first byte says

pub named-at : (m nm name : List ℕ) (o : ℕ) → part m o 11 ≡ nm → named m name o ≡ named nm name 0
unfolding named
named-at m nm name o e =
    let l : part nm 0 11 ≡ nm = part-all nm 11 (ap length (sym e) ∙ length_part m o 11) in
    rw (live_at m nm o e, e, l) refl

pub vacant-at : (m nm : List ℕ) (o : ℕ) → part m o 11 ≡ nm → vacant m o ≡ vacant nm 0
unfolding vacant
vacant-at m nm o e = rw (live_at m nm o e) refl

pub marked-dead : (nm : List ℕ) → 1 ≤ length nm → live (set nm 0 255) 0 ≡ false
unfolding live never_used deleted
marked-dead [] h = absurd (omega arith)
marked-dead (x ∷ nm) h = refl

-- a hit of the name search is a live slot with the name
pub record Named (x nm : List ℕ) : Type 0 where
  pub alive : live x 0 ≡ true
  pub same : part x 0 11 ≡ nm

pub named-hit : (x nm : List ℕ) → named x nm 0 ≡ true → Named x nm
unfolding named
named-hit x nm h = let q = both (live x 0) _ h in record { alive = q.0; same = same-eq (part x 0 11) nm q.1 }

pub vacant-hit : (x : List ℕ) → vacant x 0 ≡ true → live x 0 ≡ false
unfolding vacant
vacant-hit x h = not-true (live x 0) h

-- ---- one search

-- a slot by its number, as the rules name it
abbrev pub looked_up : List ℕ → Sought → Result ℕ NoSlot
looked_up os nowhere = Err Missing
looked_up os (slot s) = Ok (get_or os s 0)

looked-later : (o : ℕ) (os : List ℕ) (x : Sought) → looked_up os x ≡ looked_up (o ∷ os) (later x)
looked-later o os nowhere = refl
looked-later o os (slot s) = refl

pub scan-seek : (look : ℕ → Bool) (cls : List ℕ → Bool) (os : List ℕ) (fs : List File) → length fs ≡ length os
    → ((i : ℕ) → i < length os → look (get_or os i 0) ≡ cls (get_or fs i no_file).name) → scan look os ≡ looked_up os (seek cls fs)
unfolding scan seek
scan-seek look cls [] [] e h = refl
scan-seek look cls [] (f ∷ fs) e h = absurd (omega arith)
scan-seek look cls (o ∷ os) [] e h = absurd (omega arith)
scan-seek look cls (o ∷ os) (f ∷ fs) e h =
    rw (h 0 (omega arith)) (go (cls f.name) (scan-seek look cls os fs (omega arith) (λ i b. h (suc i) (omega arith))))
  where
    go : (u : Bool) → scan look os ≡ looked_up os (seek cls fs)
        → pick u (Ok o) (scan look os) ≡ looked_up (o ∷ os) (pick u (slot 0) (later (seek cls fs)))
    go true ih = refl
    go false ih = ih ∙ looked-later o os (seek cls fs)

pub record Sat (cls : List ℕ → Bool) (fs : List File) (s : ℕ) : Type 0 where
  pub low : s < length fs
  pub hit : cls (get_or fs s no_file).name ≡ true

pub slot_same : (x y : ℕ) → slot x ≡ slot y → x ≡ y
slot_same x y e = cc

slot-not : (x : ℕ) → nowhere ≡ slot x → ⊥
slot-not x e = let y : ◌≡◌ {A = ℕ} 0 1 = cc in omega arith

-- what is found is there
pub seek_found : (cls : List ℕ → Bool) (fs : List File) (s : ℕ) → seek cls fs ≡ slot s → Sat cls fs s
unfolding seek
seek_found cls [] s h = absurd (slot-not s h)
seek_found cls (f ∷ fs) s h = go (cls f.name) refl (seek cls fs) refl h (λ t q. seek_found cls fs t q)
  where
    go : (u : Bool) → cls f.name ≡ u → (x : Sought) → seek cls fs ≡ x → pick u (slot 0) (later x) ≡ slot s
        → ((t : ℕ) → seek cls fs ≡ slot t → Sat cls fs t) → Sat cls (f ∷ fs) s
    go true e x y h ih = subst (λ (t : ℕ). Sat cls (f ∷ fs) t) (slot_same 0 s h) (record { low = omega arith; hit = e })
    go false e nowhere y h ih = absurd (slot-not s h)
    go false e (slot t) y h ih =
        subst (λ (t : ℕ). Sat cls (f ∷ fs) t) (slot_same (suc t) s h) (let p = ih t y in record { low = omega (arith, p.low); hit = p.hit })

-- ---- of a ledger that image and table agree with

module _ (M S : ℕ) (z : Shape M S) (img tab : List ℕ) (a : Ledger) (r : Agrees M S img tab a) where
  pub find-is : (name : List ℕ) → find img M S name ≡ looked_up (slots_of a.dir) (file_named name a.slots)
  unfolding find
  find-is name =
      let q = directory-is M S z img a.dir r.listing r.dir in
      rw (q.0, q.1)
      (scan-seek (named img name) (λ x. named x name 0) (slots_of a.dir) a.slots r.ns (λ i b. named-at img _ name (get_or (slots_of a.dir) i 0) (r.holds i b).name))

  pub vacancy-is : vacancy img M S ≡ looked_up (slots_of a.dir) (vacant_slot a.slots)
  unfolding vacancy
  vacancy-is =
      let q = directory-is M S z img a.dir r.listing r.dir in
      rw (q.0, q.1)
      (scan-seek (vacant img) (λ x. vacant x 0) (slots_of a.dir) a.slots r.ns (λ i b. vacant-at img _ (get_or (slots_of a.dir) i 0) (r.holds i b).name))

  -- blocks in use
  pub uses-is : (readers : Bool) (s : ℕ) → s < length (slots_of a.dir) → (n : ℕ) (b : Block) → Keeps S (slots_of a.dir) tab n a.slots b
      → uses readers tab (place_of S (get_or (slots_of a.dir) s 0)) n ≡ holds_open readers s b
  unfolding uses counts
  uses-is true s hs n closed k = rw k refl
  uses-is false s hs n closed k = rw k refl
  uses-is true s hs n (listing p) k = rw k.act refl
  uses-is false s hs n (listing p) k = rw k.act refl
  uses-is true s hs n (reading t j i) k = rw (k.act, k.place) (places_same M S z a.dir r.listing t s k.slot hs)
  uses-is false s hs n (reading t j i) k = rw k.act refl
  uses-is true s hs n (writing t ub) k = rw (k.act, k.place) (places_same M S z a.dir r.listing t s k.slot hs)
  uses-is false s hs n (writing t ub) k = rw (k.act, k.place) (places_same M S z a.dir r.listing t s k.slot hs)

  used-below : (readers : Bool) (s : ℕ) → s < length (slots_of a.dir) → (n : ℕ) → n ≤ 8 → used_below readers tab (place_of S (get_or (slots_of a.dir) s 0)) n ≡ busy readers s a.blocks n
  unfolding used_below busy
  used-below readers s hs zero h = refl
  used-below readers s hs (suc n) h =
      rw (uses-is readers s hs n (get_or a.blocks n closed) (r.keeps n (omega arith)), used-below readers s hs n (omega arith)) refl

  pub in-use-is : (readers : Bool) (s : ℕ) → s < length (slots_of a.dir)
      → in_use readers tab (place_of S (get_or (slots_of a.dir) s 0)) ≡ busy readers s a.blocks 8
  unfolding in_use
  in-use-is readers s hs = used-below readers s hs 8 (omega arith)

  pub attributes-is : (s : ℕ) → s < length (slots_of a.dir) → attributes_at img (get_or (slots_of a.dir) s 0) ≡ attributes a s
  attributes-is s hs = part-head img (get_or (slots_of a.dir) s 0 + 11) 1 ∙ ap (λ (x : List ℕ). get_or x 0 0) (r.holds s hs).mode

  -- a slot that is not live is open nowhere
  pub dead-shut : (n : ℕ) → n < 8 → (s : ℕ) → live (get_or a.slots s no_file).name 0 ≡ false → opens (get_or a.blocks n closed) ≢ suc s
  dead-shut n hn s u = go (get_or a.blocks n closed) (r.keeps n hn)
    where
      go : (b : Block) → Keeps S (slots_of a.dir) tab n a.slots b → opens b ≢ suc s
      go closed k q = omega arith
      go (listing p) k q = omega arith
      go (reading t j i) k q = absurd-bool k.alive (ap (λ (x : ℕ). live (get_or a.slots x no_file).name 0) (omega (arith, q)) ∙ u)
      go (writing t ub) k q = absurd-bool k.alive (ap (λ (x : ℕ). live (get_or a.slots x no_file).name 0) (omega (arith, q)) ∙ u)

-- ---- what busy says of a block

pub not-busy : (readers : Bool) (s : ℕ) (bs : List Block) (c n : ℕ) → busy readers s bs c ≡ false → n < c
    → holds_open readers s (get_or bs n closed) ≡ false
unfolding busy
not-busy readers s bs zero n e h = absurd (omega arith)
not-busy readers s bs (suc c) n e h = go (λ q h. not-busy readers s bs c n q h) (holds_open readers s (get_or bs c closed)) refl e (ℕ_discrete n c)
  where
    go : (busy readers s bs c ≡ false → n < c → holds_open readers s (get_or bs n closed) ≡ false) → (u : Bool)
        → holds_open readers s (get_or bs c closed) ≡ u
        → pick u true (busy readers s bs c) ≡ false → Dec (n ≡ c) → holds_open readers s (get_or bs n closed) ≡ false
    go ih true p q d = absurd-bool {b = true} refl q
    go ih false p q (yes x) = ap (λ (y : ℕ). holds_open readers s (get_or bs y closed)) x ∙ p
    go ih false p q (no x) = ih q (omega arith)

pub not-open : (s : ℕ) (b : Block) → holds_open true s b ≡ false → opens b ≢ suc s
not-open s closed u q = omega arith
not-open s (listing p) u q = omega arith
not-open s (reading t j i) u q = eqb-false t s u (omega arith)
not-open s (writing t ub) u q = eqb-false t s u (omega arith)

pub not_written : (s : ℕ) (b : Block) → holds_open false s b ≡ false → writes b ≢ suc s
not_written s closed u q = omega arith
not_written s (listing p) u q = omega arith
not_written s (reading t j i) u q = omega arith
not_written s (writing t ub) u q = eqb-false t s u (omega arith)
