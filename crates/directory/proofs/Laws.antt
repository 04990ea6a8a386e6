-- Each way through the functions of this crate, and what their iterators give.
use mathlib.Core.Path.{◌≡◌, refl, sym, ap, ◌∙◌}
use mathlib.Core.Bool.{Bool, true, false, cond, ◌||◌, ◌&&◌}
use mathlib.Core.List.{List, [], ◌∷◌, ◌++◌}
use Prim.Native.Nat.{ℕ, zero, suc, ◌+◌, ◌-◌, ◌*◌, ◌/◌, ◌%◌, ◌≤◌, ◌<◌}
use native.Mathlib.Nat.{mul-le-mul}
use native.Mathlib.Omega.{arith}
use mir.Syntax.{w8, w16}
use mir.Val.{Fits}
use lib.ListN.{length, get_or}
use lib.Dec.{eqb, leb, ltb}
use borrow.Author.Tests.{le-leb, lt-leb, lt-ltb, le-ltb, eq-eqb, ne_eqb, ltb-true}
use Rattle.rules.specs.Bytes.{pick, ◌and◌, ◌or◌, within, word_at, part, over, one, two, same}
use Rattle.rules.specs.Image.{track_of, sector_of, index, address_of, is_data, link_of}
use Rattle.rules.specs.Stores.{stored}
use Rattle.rules.specs.Transfer.{mark}
use Rattle.rules.specs.Directory.{is_directory, step_to, next_of, on_next, most_of_directory, ends, directory_right, sectors_from, directory, last_of, first_slot_of, slots, live, scan, named, member, placed, in_directory}
use Rattle.rules.specs.declared.Next.{Next}
use Rattle.rules.specs.declared.Next.TheVariants.{End, To, Astray}
use Rattle.std.specs.Prelude.{Result, Ok, Err, Option, Some, None, ⊤}
use Rattle.std.specs.Option.{ok_or, option_map}
use Rattle.std.proofs.lemmas.Iterator.Adapters.{option_map_id}
use Rattle.std.specs.List.{list_all, list_any, last_or, range_with_len, find as first_that}
use Rattle.std.specs.Iterator.{MakesProgress, YieldsFirst, Drains, item_count}
use Rattle.std.proofs.Common.{rules}
use Rattle.rules.specs.declared.NoSlot.{NoSlot}
use Rattle.rules.specs.declared.NoSlot.TheVariants.{Missing, Broken}
use Rattle.laws.specs.Tests.{never, clash}
use Rattle.laws.specs.Bytes.{part_at, same-eq}
use Rattle.laws.specs.Slots.{is_displacement, placed_at, placed-only, placed-none}
use Rattle.laws.specs.Walk.{sectors-more, slot-begins}
use Rattle.laws.specs.Visits.{step_slot, visits, on_there, visits-next, visits-none, visits_few, slots-visits, most_slots}
use Rattle.directory.specs.declared.Extent.{Extent}
use Rattle.directory.specs.Extents.{extent_of}
use Rattle.directory.specs.declared.SectorWalk.{SectorWalk}
use Rattle.directory.specs.Walks.{sectors_left, room, slots_from}

pub product : (x y : ℕ) → x ≤ 255 → y ≤ 255 → x * y ≤ 65025
product x y h k = mul-le-mul h k

-- ---- links

-- an address by its two bytes, track and sector
module _ (M S a : ℕ) {bs : List ℕ} (e : bs ≡ track_of a ∷ sector_of a ∷ []) where
  pub off-track : {r : Bool} → (get_or bs 0 0 ≡ 0 → ⊥) → r ≡ is_data M S a → r ≡ is_directory M S a
  unfolding is_directory
  off-track h d = rw (ne_eqb (track_of a) 0 (rw e at h)) d

  module _ (h : get_or bs 0 0 ≡ 0) where
    pub before-fifth : get_or bs 1 0 < 5 → leb 5 (get_or bs 1 0) ≡ is_directory M S a
    unfolding is_directory within
    before-fifth k = rw (lt-leb 5 (get_or bs 1 0) k, eq-eqb (track_of a) 0 (rw e at h), lt-leb 5 (sector_of a) (rw e at k)) refl

    pub fifth_on : 5 ≤ get_or bs 1 0 → leb (get_or bs 1 0) S ≡ is_directory M S a
    unfolding is_directory within
    fifth_on k = rw (eq-eqb (track_of a) 0 (rw e at h), le-leb 5 (sector_of a) (rw e at k), e) refl

pub next-by : (img : List ℕ) (M S k : ℕ) {a : ℕ} {o : Next} → a ≡ link_of img k → o ≡ step_to M S a → o ≡ next_of img M S k
next-by img M S k e q = q ∙ ap (step_to M S) e

-- ---- the walk

-- what a turn takes of the slots left
module _ (img : List ℕ) (M S n o : ℕ) where
  pub slots-none : o ≡ 0 → slots_from img M S n o ≡ []
  slots-none h = rw (eq-eqb o 0 h) refl

  there : (p m : ℕ) → (p ≡ 0 → ⊥) → m ≡ room p + 10 * n → visits img M S m p ≡ slots_from img M S n p
  there p m h e = rw (e, ne_eqb p 0 h) refl

  -- the next of its sector
  pub slots-next : {p : ℕ} → (o ≡ 0 → ⊥) → o % 256 < 232 → p ≡ o + 24 → slots_from img M S n o ≡ o ∷ slots_from img M S n p
  slots-next {p} h k e =
      let q : room o + 10 * n ≡ suc (room p + 10 * n) = omega (arith, k, e) in
      rw (ne_eqb o 0 h, q) (visits-next img M S 0 0 (room p + 10 * n) o k ∙ ap (λ (l : List ℕ). o ∷ l) (rw (← e) (there p (room p + 10 * n) (omega (arith, e)) refl)))

  module _ (h : o ≡ 0 → ⊥) (k : 232 ≤ o % 256) where
    -- the last of its sector
    last-is : slots_from img M S n o ≡ o ∷ on_there (step_slot img M S o) [] (λ p. visits img M S (10 * n) p)
    unfolding visits
    last-is =
        let q : room o + 10 * n ≡ suc (10 * n) = omega (arith, k) in
        rw (ne_eqb o 0 h, q) refl

    pub slots-last : n ≡ 0 → slots_from img M S n o ≡ o ∷ slots_from img M S n 0
    unfolding visits
    slots-last e = last-is ∙ rw e (go (step_slot img M S o))
      where
        go : (r : Result ℕ NoSlot) → ◌≡◌ {A = List ℕ} (o ∷ on_there r [] (λ p. visits img M S 0 p)) (o ∷ [])
        go (Ok p) = refl
        go (Err Missing) = refl
        go (Err Broken) = refl

    module _ {r : Result ℕ NoSlot} (d : r ≡ step_slot img M S o) where
      first-there : {p : ℕ} → r ≡ Ok p → p % 256 ≡ 16
      unfolding step_slot
      first-there {p} q =
          let u : ◌≡◌ {A = Result ℕ NoSlot} (Ok p) (pick (ltb (o % 256) 232) (Ok (o + 24)) (on_next (next_of img M S (o / 256)) (Err Missing) (Err Broken) (λ j. Ok (first_slot_of j)))) = sym q ∙ d in
          go (next_of img M S (o / 256)) (rw (le-ltb (o % 256) 232 k) at u)
        where
          go : (t : Next) → ◌≡◌ {A = Result ℕ NoSlot} (Ok p) (on_next t (Err Missing) (Err Broken) (λ j. Ok (first_slot_of j))) → p % 256 ≡ 16
          go End e = clash (cc)
          go Astray e = clash (cc)
          go (To j) e = let z : p ≡ 256 * j + 16 = cc in omega (arith, z)

      pub slots-to : {p : ℕ} → (n ≡ 0 → ⊥) → r ≡ Ok p → slots_from img M S n o ≡ o ∷ slots_from img M S (n - 1) p
      slots-to {p} z q =
          let f = first-there q in
          let m : 10 * n ≡ room p + 10 * (n - 1) = omega (arith, z, f) in
          last-is ∙ rw (← d, q, ne_eqb p 0 (omega (arith, f)), m) refl

      pub slots-end : {x : NoSlot} → r ≡ Err x → slots_from img M S n o ≡ o ∷ slots_from img M S n 0
      slots-end {x = Missing} q = last-is ∙ rw (← d, q) refl
      slots-end {x = Broken} q = last-is ∙ rw (← d, q) refl

-- where all are left, of m sectors
module _ (img : List ℕ) (M S m : ℕ) (e : m ≡ most_of_directory M S) where
  pub all-slots : {left : ℕ} → m ≤ 65535 → 1 ≤ m → left ≡ m - 1 → (slots_from img M S left 1040 ≡ slots img M S) × (length (slots_from img M S left 1040) ≤ 655350)
  all-slots {left} f h d =
      let q : 10 + 10 * left ≡ most_slots M S = omega (arith, e, h, d) in
      let l = visits_few img M S (10 + 10 * left) 1040 in
      (ap (λ (n : ℕ). visits img M S n 1040) q ∙ sym (slots-visits img M S), omega (arith, l, f, h, d))

  pub no-slots : (1 ≤ m → ⊥) → ([] ≡ slots img M S) × (0 ≤ 655350)
  no-slots h = (sym (slots-visits img M S ∙ visits-none img M S (most_slots M S) 1040 (omega (arith, e, h))), omega arith)

-- of the sectors
module _ (img : List ℕ) (M S n k : ℕ) {a : Next} (e : a ≡ next_of img M S k) where
  pub sectors-to : {j : ℕ} → (n ≡ 0 → ⊥) → a ≡ To j → sectors_from img M S n k ≡ k ∷ sectors_from img M S (n - 1) j
  sectors-to h q = rw (sectors-more img M S n k (omega (arith, h)), ← e, q) refl

  pub sectors-end : (n ≡ 0 → ⊥) → ((j : ℕ) → a ≡ To j → ⊥) → sectors_from img M S n k ≡ k ∷ sectors_from img M S 0 k
  unfolding sectors_from
  sectors-end h q = rw (sectors-more img M S n k (omega (arith, h)), ← e) (go a refl)
    where
      go : (t : Next) → a ≡ t → ◌≡◌ {A = List ℕ} (k ∷ on_next t [] [] (λ j. sectors_from img M S (n - 1) j)) (k ∷ sectors_from img M S 0 k)
      go End u = refl
      go Astray u = refl
      go (To j) u = absurd (q j u)

-- an item taken of those left
pub progress : {A B : Type 0} (rest : A → List B) (s t : A) (x : B) → rest s ≡ x ∷ rest t → MakesProgress (λ _. ⊤) (item_count rest) s (Some x) t
progress rest s t x e = let h = ap length e in search rules

-- no more than n
pub sectors-short : (img : List ℕ) (M S n k : ℕ) → n ≤ 65535 → length (sectors_from img M S n k) ≤ 65535
unfolding sectors_from
sectors-short img M S n k h = let l = few n k in omega (arith, h, l)
  where
    few : (n k : ℕ) → length (sectors_from img M S n k) ≤ n
    few zero k = omega arith
    few (suc n) k = go (next_of img M S k) (λ j. few n j)
      where
        go : (t : Next) → ((j : ℕ) → length (sectors_from img M S n j) ≤ n) → suc (length (on_next t [] [] (λ j. sectors_from img M S n j))) ≤ suc n
        go End f = omega arith
        go Astray f = omega arith
        go (To j) f = let l = f j in omega (arith, l)

-- what the iterator gave up to its end is all that it had left
all_taken : (s : SectorWalk) (xs : List ℕ) → Drains (YieldsFirst sectors_left) s xs → xs ≡ sectors_left s
all_taken s [] (u, (t, e, d)) = sym (ap sectors_left e ∙ d.0)
all_taken s (x ∷ xs) (u, (t, (j, g, y), d)) = ap (λ (l : List ℕ). x ∷ l) (all_taken j xs (u, (t, y, d))) ∙ sym g

last_taken : {s : SectorWalk} {all : List ℕ} {r : Option ℕ} → sectors_left s ≡ all → ((xs : List ℕ) × Drains (YieldsFirst sectors_left) s xs × (r ≡ last_or None xs)) → r ≡ last_or None all
last_taken {s} e (xs, d, q) = q ∙ ap (last_or None) (all_taken s xs d ∙ e)

-- a directory ends where nothing is behind its last sector
module _ (img : List ℕ) (M S : ℕ) where
  abbrev ends_at : Option ℕ → Bool
  ends_at None = false
  ends_at (Some k) = on_next (next_of img M S k) true false (λ j. false)

  ends-last : (n k : ℕ) (o : Option ℕ) → ends_at o ≡ false → ends img M S n k ≡ ends_at (last_or o (sectors_from img M S n k))
  unfolding ends sectors_from
  ends-last zero k o e = sym e
  ends-last (suc n) k o e = go (next_of img M S k) refl (λ j. ends-last n j (Some k))
    where
      go : (t : Next) → next_of img M S k ≡ t → ((j : ℕ) → ends_at (Some k) ≡ false → ends img M S n j ≡ ends_at (last_or (Some k) (sectors_from img M S n j)))
          → on_next t true false (λ j. ends img M S n j) ≡ ends_at (last_or (Some k) (on_next t [] [] (λ j. sectors_from img M S n j)))
      go End q f = rw q refl
      go Astray q f = rw q refl
      go (To j) q f = f j (rw q refl)

  module _ {s : SectorWalk} {r : Option ℕ} (e : sectors_left s ≡ directory img M S) (d : (xs : List ℕ) × Drains (YieldsFirst sectors_left) s xs × (r ≡ last_or None xs)) where
    right-last : directory_right img M S ≡ ends_at r
    unfolding directory_right directory
    right-last = ends-last (most_of_directory M S) 4 None refl ∙ ap ends_at (sym (last_taken e d))

    pub right-none : r ≡ None → false ≡ directory_right img M S
    right-none q = rw (right-last, q) refl

    module _ {k : ℕ} {a : Next} (q : r ≡ Some k) (u : a ≡ next_of img M S k) where
      pub right-end : a ≡ End → true ≡ directory_right img M S
      right-end h = rw (right-last, q, ← u, h) refl

      pub right-on : (a ≡ End → ⊥) → false ≡ directory_right img M S
      right-on h = rw (right-last, q, ← u) (go a refl)
        where
          go : (t : Next) → a ≡ t → false ≡ on_next t true false (λ j. false)
          go End v = absurd (h v)
          go Astray v = refl
          go (To j) v = refl

-- how far it goes: these sectors, behind m whose last is x
abbrev pub extent_from : List ℕ → ℕ → ℕ → Extent
extent_from ks x m = record { end = last_of ks x; sectors = m + length ks }

pub extent-first : (img : List ℕ) (M S : ℕ) {ks : List ℕ} → ks ≡ directory img M S → extent_of img M S ≡ extent_from ks 4 0
unfolding extent_of
extent-first img M S e = rw e (ap (λ (i : ℕ). record { end = last_of (directory img M S) 4; sectors = i }) (omega arith))

pub member_any : (x : ℕ) (ks : List ℕ) → list_any (λ k. eqb k x) ks ≡ member x ks
unfolding member
member_any x [] = refl
member_any x (k ∷ ks) = go (eqb k x) (member_any x ks)
  where
    go : (t : Bool) → list_any (λ j. eqb j x) ks ≡ member x ks → (t || list_any (λ j. eqb j x) ks) ≡ t or member x ks
    go true h = refl
    go false h = h

-- ---- a slot looked at

-- two runs of bytes compared by their indexes, from a on
same_by_index : (xs ys : List ℕ) (p q a n : ℕ) → list_all (λ i. eqb (get_or xs (p + i) 0) (get_or ys (q + i) 0)) (range_with_len a n) ≡ same (part xs (p + a) n) (part ys (q + a) n)
unfolding same part
same_by_index xs ys p q a zero = refl
same_by_index xs ys p q a (suc n) = go (eqb (get_or xs (p + a) 0) (get_or ys (q + a) 0)) (rw (let u : p + a + 1 ≡ p + (a + 1) = omega arith in u, let v : q + a + 1 ≡ q + (a + 1) = omega arith in v) (same_by_index xs ys p q (a + 1) n))
  where
    go : (t : Bool) {r w : Bool} → r ≡ w → (t && r) ≡ t and w
    go true h = h
    go false h = refl

pub same_bytes : (xs ys : List ℕ) (p q n : ℕ) → list_all (λ i. eqb (get_or xs (p + i) 0) (get_or ys (q + i) 0)) (range_with_len 0 n) ≡ same (part xs p n) (part ys q n)
same_bytes xs ys p q n = same_by_index xs ys p q 0 n ∙ rw (let x : p + 0 ≡ p = omega arith in x, let y : q + 0 ≡ q = omega arith in y) refl

-- two letters as a number
pub letters-word : (tab : List ℕ) (at i : ℕ) {a b : ℕ} → a ≡ get_or tab (at + i) 0 → b ≡ get_or tab (at + (i + 1)) 0 → a * 256 + b ≡ word_at tab (at + i)
unfolding word_at
letters-word tab at i e d = let x : at + (i + 1) ≡ at + i + 1 = omega arith in rw (e, d, x) refl

-- names that differ in two letters
module _ (img tab : List ℕ) (slot at d : ℕ) {a b : ℕ} (p : a ≡ word_at img (slot + d)) (q : b ≡ word_at tab (at + d)) (n : a ≡ b → ⊥) (h : ltb (d + 1) 11 ≡ true) where
  other : same (part img slot 11) (part tab at 11) ≡ false
  unfolding word_at
  other = go (same (part img slot 11) (part tab at 11)) refl
    where
      letter : part img slot 11 ≡ part tab at 11 → (i : ℕ) → i < 11 → get_or img (slot + i) 0 ≡ get_or tab (at + i) 0
      letter e i l = sym (part_at img slot 11 i l) ∙ ap (λ (m : List ℕ). get_or m i 0) e ∙ part_at tab at 11 i l

      go : (t : Bool) → same (part img slot 11) (part tab at 11) ≡ t → t ≡ false
      go true e =
          let s = same-eq (part img slot 11) (part tab at 11) e in
          let l = ltb-true (d + 1) 11 h in
          let x = letter s d (omega arith) in
          let y : get_or img (slot + d + 1) 0 ≡ get_or tab (at + d + 1) 0 = rw (let u : slot + d + 1 ≡ slot + (d + 1) = omega arith in u, let v : at + d + 1 ≡ at + (d + 1) = omega arith in v) (letter s (d + 1) l) in
          absurd (n (omega (arith, x, y)))
      go false e = refl

  pub named_other : false ≡ named img (part tab at 11) slot
  unfolding named
  named_other = rw other (sym (neither (live img slot)))
    where
      neither : (t : Bool) → pick t false false ≡ false
      neither true = refl
      neither false = refl

-- ---- search and vacancy

found_scan : (wanted : ℕ → Bool) (os : List ℕ) → ok_or (first_that wanted os) Missing ≡ scan wanted os
unfolding scan
found_scan wanted [] = refl
found_scan wanted (o ∷ os) = go (wanted o) (found_scan wanted os)
  where
    go : (t : Bool) → ok_or (first_that wanted os) Missing ≡ scan wanted os → ok_or (cond t (Some o) (first_that wanted os)) Missing ≡ pick t (Ok o) (scan wanted os)
    go true h = refl
    go false h = h

module _ (img : List ℕ) (M S : ℕ) (wanted : ℕ → Bool) {r : Bool} (e : r ≡ directory_right img M S) where
  pub in-wrong : r ≡ false → Err Broken ≡ in_directory img M S wanted
  in-wrong k = rw (← e, k) refl

  pub in-right : (o : Option ℕ) {f : Result ℕ NoSlot} → r ≡ true → f ≡ ok_or o Missing → option_map (λ x. x) o ≡ first_that wanted (slots img M S) → f ≡ in_directory img M S wanted
  in-right o k q d = rw (← e, k) (q ∙ ap (λ (x : Option ℕ). ok_or x Missing) (sym (option_map_id o) ∙ d) ∙ found_scan wanted (slots img M S))

-- ---- places

-- an address, and a displacement of one byte
abbrev place_by : ℕ → ℕ → List ℕ
place_by a d = two a ++ one d

module _ (img : List ℕ) (M S a d : ℕ) {r : Bool} (e : r ≡ directory_right img M S) where
  pub place-wrong : r ≡ false → Err Broken ≡ placed img M S (place_by a d)
  unfolding placed
  place-wrong j = rw (← e, j) refl

  module _ (fs : Fits w8 S) (fa : Fits w16 a) (fd : Fits w8 d) (j : r ≡ true) {k : ℕ} {m : Bool} (x : k ≡ index S a) (p : m ≡ member k (directory img M S)) where
    some : S < 256
    some = omega (arith, fs)

    right : directory_right img M S ≡ true
    right = sym e ∙ j

    -- what a slot there would mean
    abbrev Only : Type 0
    Only = (member (index S a) (directory img M S) ≡ true) × (address_of S (index S a) ≡ a) × (is_displacement d ≡ true)

    nowhere : (Only → ⊥) → Err Missing ≡ placed img M S (place_by a d)
    nowhere h = sym (placed-none img M S some a d (omega (arith, fa)) (omega (arith, fd)) right (λ o q. h (placed-only img M S some a d (omega (arith, fa)) (omega (arith, fd)) o q)))

    pub place-foreign : m ≡ false → Err Missing ≡ placed img M S (place_by a d)
    place-foreign f = nowhere (λ q. never (sym f ∙ p ∙ ap (λ (y : ℕ). member y (directory img M S)) x ∙ q.0))

    module _ (f : m ≡ true) {b : ℕ} (w : b ≡ address_of S k) where
      pub place-strange : (b ≡ a → ⊥) → Err Missing ≡ placed img M S (place_by a d)
      place-strange h = nowhere (λ q. h (w ∙ ap (address_of S) x ∙ q.1))

      module _ (y : b ≡ a) {u : Bool} (g : u ≡ is_displacement d) where
        pub place-between : u ≡ false → Err Missing ≡ placed img M S (place_by a d)
        place-between z = nowhere (λ q. never (sym z ∙ g ∙ q.2))

        pub place-there : u ≡ true → Ok (256 * k + d) ≡ placed img M S (place_by a d)
        place-there z =
            ap (λ (i : ℕ). Ok (256 * i + d)) x
            ∙ sym (placed_at img M S some a d (omega (arith, fa)) (omega (arith, fd)) right
            (ap (λ (i : ℕ). member i (directory img M S)) (sym x) ∙ sym p ∙ f)
            (ap (address_of S) (sym x) ∙ sym w ∙ y)
            (sym g ∙ z))

-- ---- the slot behind

pub behind-near : (img : List ℕ) (M S slot : ℕ) → slot % 256 < 232 → Ok (slot + 24) ≡ step_slot img M S slot
unfolding step_slot
behind-near img M S slot h = rw (lt-ltb (slot % 256) 232 h) refl

module _ (img : List ℕ) (M S slot : ℕ) {a : Next} (h : 232 ≤ slot % 256) (e : a ≡ next_of img M S (slot / 256)) where
  pub behind-end : a ≡ End → Err Missing ≡ step_slot img M S slot
  unfolding step_slot
  behind-end j = rw (le-ltb (slot % 256) 232 h, ← e, j) refl

  pub behind-astray : a ≡ Astray → Err Broken ≡ step_slot img M S slot
  unfolding step_slot
  behind-astray j = rw (le-ltb (slot % 256) 232 h, ← e, j) refl

  pub behind-to : {k : ℕ} → a ≡ To k → Ok (256 * k + 16) ≡ step_slot img M S slot
  unfolding step_slot
  behind-to j = rw (le-ltb (slot % 256) 232 h, ← e, j) refl

-- ---- a slot marked

pub marked : (img : List ℕ) (slot : ℕ) {i : List ℕ} → i ≡ over img slot (one 255) → i ≡ stored img (mark slot)
unfolding mark
marked img slot e = rw (slot-begins, e) refl
