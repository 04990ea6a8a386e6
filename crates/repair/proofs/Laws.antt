-- Each way through the functions of this crate, and each turn and way out of their loops. In a loop's laws w is what it comes to.
use mathlib.Core.Path.{◌≡◌, refl, sym, ap, ◌∙◌}
use mathlib.Core.Bool.{Bool, true, false}
use mathlib.Core.List.{List, [], ◌∷◌}
use Prim.Native.Nat.{ℕ, zero, suc, ◌+◌, ◌-◌, ◌*◌, ◌/◌, ◌%◌, ◌≤◌, ◌<◌}
use native.Mathlib.Omega.{arith}
use mir.Syntax.{w16}
use mir.Val.{Fits}
use lib.ListN.{length, get_or, take}
use lib.Seq.{length-take-le}
use lib.Dec.{eqb, ltb}
use borrow.Author.Tests.{lt-ltb, le-ltb, eq-eqb, ne_eqb}
use Rattle.rules.specs.Bytes.{pick, over, one, six}
use Rattle.rules.specs.Stores.{stored}
use Rattle.rules.specs.Image.{index, address_of, is_data, data_number, link_of, info_sector, info_first, most_tracks, most_sectors}
use Rattle.rules.specs.Directory.{next_of, on_next, most_of_directory, first_of_directory, sectors_from, directory_right, directory, slots, live, start_in_slot, start_at, size_at, map_at}
use Rattle.rules.specs.Transfer.{linked}
use Rattle.rules.specs.Outcome.{Told, told}
use Rattle.rules.specs.Block.{blocks, block_length, block_at, activity_in}
use Rattle.rules.specs.Census.{twins}
use Rattle.rules.specs.Repair.{all_closed, mended, repair}
use Rattle.rules.specs.declared.Next.{Next}
use Rattle.rules.specs.declared.Next.TheVariants.{End, To, Astray}
use Rattle.std.specs.Prelude.{Option, Some, None, Result, Ok, Err}
use Rattle.rules.specs.declared.NoSlot.{NoSlot}
use Rattle.rules.specs.declared.NoSlot.TheVariants.{Missing, Broken}
use Rattle.laws.specs.Visits.{one_left, none_left, most_slots, first_slot, step_slot, on_there}
use Rattle.laws.specs.Walk.{sectors-more, sectors-none}
use Rattle.laws.specs.Addresses.{Shape, data-few, shape_is, address-small}
use Rattle.census_laws.specs.Limits.{few-data}
use Rattle.disk.specs.Loaded.{shape_of}
use Rattle.disk.specs.Shapes.{some_is, none-is}
use Rattle.disk.specs.declared.Free.{Free}
use Rattle.disk.specs.declared.Shape as read
use Rattle.repair.specs.declared.Kept.{Kept}
use Rattle.repair.specs.Passes.{with_mark, with_marks, is_open, Walked, walked, walk, slot_mended, Worked, worked, file_mended, files_mended, Chained, chained, before, in_front, no_free, chaining, free_mended, tried}

-- ---- all blocks closed

module _ (tab : List ℕ) (n : ℕ) {w : Bool} (v : w ≡ all_closed tab n) where
  pub closed_all : n ≤ 0 → true ≡ w
  unfolding all_closed
  closed_all h = rw (v, none_left n h) refl

  closed-more : 0 < n → w ≡ pick (eqb (activity_in tab (block_at (n - 1))) 0) (all_closed tab (n - 1)) false
  unfolding all_closed
  closed-more h = v ∙ ap (all_closed tab) (one_left n h)

  module _ {a : ℕ} (h : 0 < n) (e : a ≡ activity_in tab (block_at (n - 1))) where
    pub closed-not : (a ≡ 0 → ⊥) → false ≡ w
    closed-not k = rw (closed-more h, ← e, ne_eqb a 0 k) refl

    pub closed_on : a ≡ 0 → w ≡ all_closed tab (n - 1)
    closed_on k = rw (closed-more h, ← e, eq-eqb a 0 k) refl

-- ---- marks

module _ (S k : ℕ) (ms : List ℕ) where
  pub mark-low : k < S → ms ≡ with_mark S k ms
  unfolding with_mark
  mark-low h = rw (lt-ltb k S h) refl

  pub mark-data : {ms' : List ℕ} → S ≤ k → ms' ≡ over ms (k - S + 0) (one 1) → ms' ≡ with_mark S k ms
  unfolding with_mark
  mark-data h e = rw (le-ltb k S h) (e ∙ ap (λ (i : ℕ). over ms i (one 1)) (omega arith))

pub marks-first : (img : List ℕ) (M S : ℕ) (ms : List ℕ) {ks : List ℕ} → ks ≡ directory img M S → with_marks S (directory img M S) ms ≡ with_marks S ks ms
marks-first img M S ms e = rw e refl

module _ (S : ℕ) (ks ms : List ℕ) {w : List ℕ} (v : w ≡ with_marks S ks ms) where
  pub marks-none : ks ≡ [] → ms ≡ w
  unfolding with_marks
  marks-none e = rw (v, e) refl

  pub marks-next : {k : ℕ} {ks' ms' : List ℕ} → ks ≡ k ∷ ks' → ms' ≡ with_mark S k ms → w ≡ with_marks S ks' ms'
  unfolding with_marks
  marks-next e d = rw (v, e, d) refl

module _ (M S a : ℕ) (ms : List ℕ) {b : Bool} (d : b ≡ is_data M S a) where
  pub open_no : b ≡ false → false ≡ is_open M S ms a
  unfolding is_open
  open_no h = rw (← d, h) refl

  pub open_by : {k n m : ℕ} → b ≡ true → k ≡ index S a → n ≡ data_number S k → m ≡ get_or ms n 0 → eqb m 0 ≡ is_open M S ms a
  unfolding is_open
  open_by h p q r = rw (← d, h, r, q, p) refl

-- ---- what a file keeps

pub walk-first : (img : List ℕ) (M S size a e c : ℕ) (ms : List ℕ) → walk img M S size a e c ms ≡ walk img M S (size - 0) a e c ms
walk-first img M S size a e c ms = ap (λ (j : ℕ). walk img M S j a e c ms) (omega arith)

module _ (img : List ℕ) (M S size a e c : ℕ) (ms : List ℕ) {w : Walked} (v : w ≡ walk img M S (size - c) a e c ms) where
  walk_more : c < size
      → w ≡ pick (is_open M S ms a)
      (walk img M S (size - (c + 1)) (link_of img (index S a)) a (c + 1) (with_mark S (index S a) ms))
      (walked (record { end = e; count = c }) ms)
  unfolding walk
  walk_more h = let one_less : size - c ≡ suc (size - (c + 1)) = omega arith in v ∙ ap (λ (j : ℕ). walk img M S j a e c ms) one_less

  pub walk-done : c ≤ size → size ≤ c → walked (record { end = e; count = size }) ms ≡ w
  unfolding walk
  walk-done l h =
      let all : c ≡ size = omega arith in
      let none : size - c ≡ 0 = omega arith in
      rw (v, none, all) refl

  pub walk-cut : {b : Bool} → c < size → b ≡ is_open M S ms a → b ≡ false → walked (record { end = e; count = c }) ms ≡ w
  walk-cut h d k = rw (walk_more h, ← d, k) refl

  pub walk-on : {b : Bool} {k next : ℕ} {ms' : List ℕ} → c < size → b ≡ is_open M S ms a → b ≡ true → k ≡ index S a → ms' ≡ with_mark S k ms → next ≡ link_of img k
      → w ≡ walk img M S (size - (c + 1)) next a (c + 1) ms'
  walk-on h d t p q l = rw (walk_more h, ← d, t, q, l, p) refl

-- ---- files

pub slot-done : (img : List ℕ) (S o start size : ℕ) (k : Kept) {first map at : ℕ} {bs cs ds img₁ img₂ : List ℕ} → first ≡ pick (eqb k.count 0) 0 start
    → map ≡ pick (ltb k.count size) 0 (map_at img o)
    → bs ≡ first / 256 % 256 ∷ first % 256 ∷ [] → cs ≡ k.end / 256 % 256 ∷ k.end % 256 ∷ [] → ds ≡ k.count / 256 % 256 ∷ k.count % 256 ∷ []
    → img₁ ≡ over img (o + start_in_slot) (get_or bs 0 0 ∷ get_or bs 1 0 ∷ get_or cs 0 0 ∷ get_or cs 1 0 ∷ get_or ds 0 0 ∷ get_or ds 1 0 ∷ map ∷ [])
    → at ≡ index S k.end → img₂ ≡ stored img₁ (linked (eqb k.count 0) at 0) → img₂ ≡ slot_mended img S o start size k
unfolding slot_mended six one
slot-done img S o start size k p q x y z e r d = rw (d, e, x, y, z, r, p, q) refl

module _ (img : List ℕ) (M S o : ℕ) (ms : List ℕ) {a : Bool} (d : a ≡ live img o) where
  pub file-dead : a ≡ false → worked img ms ≡ file_mended img M S o ms
  unfolding file_mended
  file-dead h = rw (← d, h) refl

  pub file-live : {start size : ℕ} {k : Kept} {img' ms' : List ℕ} → a ≡ true → start ≡ start_at img o → size ≡ size_at img o
      → walked k ms' ≡ walk img M S size start 0 0 ms → img' ≡ slot_mended img S o start size k → worked img' ms' ≡ file_mended img M S o ms
  unfolding file_mended
  file-live h p q e f = rw (← d, h, ← p, ← q, ← e, f) refl

pub files-first : (M S n : ℕ) (img ms : List ℕ) → n ≡ most_slots M S → files_mended M S (most_slots M S) first_slot img ms ≡ files_mended M S (n - 0) first_slot img ms
files-first M S n img ms h = ap (λ (j : ℕ). files_mended M S j first_slot img ms) (omega arith)

module _ (M S n i o : ℕ) (img ms : List ℕ) {w : Worked} (v : w ≡ files_mended M S (n - i) o img ms) where
  pub files-none : n ≤ i → worked img ms ≡ w
  unfolding files_mended
  files-none h = let none : n - i ≡ 0 = omega arith in rw (v, none) refl

  module _ {img' ms' : List ℕ} {l : Result ℕ NoSlot} (h : i < n) (d : worked img' ms' ≡ file_mended img M S o ms) (e : l ≡ step_slot img' M S o) where
    files-here : w ≡ on_there l (worked img' ms') (λ p. files_mended M S (n - (i + 1)) p img' ms')
    unfolding files_mended
    files-here =
        let one_less : n - i ≡ suc (n - (i + 1)) = omega arith in
        v ∙ ap (λ (j : ℕ). files_mended M S j o img ms) one_less ∙ rw (← d, e) refl

    pub files-next : {p : ℕ} → l ≡ Ok p → w ≡ files_mended M S (n - (i + 1)) p img' ms'
    files-next t = rw (files-here, t) refl

    pub files-end : {x : NoSlot} → l ≡ Err x → worked img' ms' ≡ w
    files-end {x = Missing} t = rw (files-here, t) refl
    files-end {x = Broken} t = rw (files-here, t) refl

-- ---- the free chain

-- the address of a sector has two bytes
address-fits : (M S k : ℕ) → M < 256 → S < 256 → k < (M + 1) * S → address_of S k < 65536
address-fits M S k h l b = some S refl
  where
    some : (n : ℕ) → S ≡ n → address_of S k < 65536
    some zero e = absurd (omega (arith, b, ap (λ (x : ℕ). (M + 1) * x) e))
    some (suc n) e = address-small 0 M S k (omega arith) b h (omega arith) l

pub address-cast : (M S k : ℕ) {a : ℕ} → a ≡ address_of S k → k < (M + 1) * S → M < 256 → S < 256 → Fits w16 a
address-cast M S k e b h l = record { fits = omega (arith, e, address-fits M S k h l b) }

module _ (S k : ℕ) (f : Free) (img : List ℕ) where
  pub before-is : {a end : ℕ} {img' : List ℕ} → img' ≡ stored img (linked false k f.first) → a ≡ address_of S k → end ≡ pick (eqb f.count 0) a f.last
      → chained (record { first = a; last = end; count = f.count + 1 }) img' ≡ before S k f img
  unfolding before
  before-is d p q = rw (d, q, p) refl

  pub before-count : {r : Free} {img' : List ℕ} → chained r img' ≡ before S k f img → r.count ≡ f.count + 1
  unfolding before
  before-count {r} d = let e : r ≡ record { first = address_of S k; last = pick (eqb f.count 0) (address_of S k) f.last; count = f.count + 1 } = cc in ap (λ (x : Free). x.count) e

module _ (S n : ℕ) (ms : List ℕ) (f : Free) (img : List ℕ) {m : ℕ} (e : m ≡ get_or ms n 0) where
  pub front-held : (m ≡ 0 → ⊥) → chained f img ≡ in_front S ms n f img
  unfolding in_front
  front-held h = rw (← e, ne_eqb m 0 h) refl

  pub front-open : {w : Chained} → m ≡ 0 → w ≡ before S (S + n) f img → w ≡ in_front S ms n f img
  unfolding in_front
  front-open h d = rw (← e, eq-eqb m 0 h) d

-- its index is one of a sector, and has two bytes
pub front-inside : (M S n : ℕ) → n < M * S → S + n < (M + 1) * S
front-inside M S n h = omega arith

pub front_fits : (M S n : ℕ) → n < M * S → M < 256 → S < 256 → Fits w16 (S + n)
front_fits M S n h k l = record { fits = omega (arith, few-data M S k l) }

-- one sector more at the most
front-most : (S n : ℕ) (ms : List ℕ) (f : Free) (img : List ℕ) {r : Free} {img' : List ℕ} → chained r img' ≡ in_front S ms n f img → r.count ≤ f.count + 1
unfolding in_front
front-most S n ms f img {r} {img'} d = go (eqb (get_or ms n 0) 0) d
  where
    go : (b : Bool) → chained r img' ≡ pick b (before S (S + n) f img) (chained f img) → r.count ≤ f.count + 1
    go true q = omega (arith, before-count S (S + n) f img q)
    go false q = let s : r ≡ f = cc in omega (arith, ap (λ (x : Free). x.count) s)

-- so the count is a number of two bytes
pub front-room : (S i n X : ℕ) (ms : List ℕ) (f : Free) (img : List ℕ) {r : Free} {img' : List ℕ} → chained r img' ≡ in_front S ms i f img → 0 < n
    → f.count + n ≤ X → r.count + (n - 1) ≤ X
front-room S i n X ms f img d h k = omega (arith, front-most S i ms f img d)

pub free_room : (X n : ℕ) (f : Free) {k : ℕ} → k ≡ X → k < 65536 → 0 < n → f.count + n ≤ X → (n - 1 < X) × (f.count < 65535)
free_room X n f e h p q = (omega arith, omega arith)

module _ (f : Free) (a : f.first ≡ 0) (b : f.last ≡ 0) (c : f.count ≡ 0) where
  pub chaining-first : (M S n : ℕ) (ms img : List ℕ) → n ≡ M * S → chaining S ms (M * S) no_free img ≡ chaining S ms n f img
  chaining-first M S n ms img h =
      let none : f ≡ no_free =
      ap (λ (x : ℕ). record { first = x; last = f.last; count = f.count }) a
      ∙ ap (λ (x : ℕ). record { first = 0; last = x; count = f.count }) b
      ∙ ap (λ (x : ℕ). record { first = 0; last = 0; count = x }) c
      in
      rw (h, none) refl

  pub none-counted : (X n : ℕ) → n ≡ X → f.count + n ≤ X
  none-counted X n h = omega arith

module _ (S n : ℕ) (ms : List ℕ) (f : Free) (img : List ℕ) {w : Chained} (v : w ≡ chaining S ms n f img) where
  pub chaining-none : n ≤ 0 → chained f img ≡ w
  unfolding chaining
  chaining-none h = rw (v, none_left n h) refl

  pub chaining-more : {f' : Free} {img' : List ℕ} → 0 < n → chained f' img' ≡ in_front S ms (n - 1) f img → w ≡ chaining S ms (n - 1) f' img'
  unfolding chaining
  chaining-more h d = v ∙ ap (λ (j : ℕ). chaining S ms j f img) (one_left n h) ∙ rw (← d) refl

pub free-mended : (M S : ℕ) (ms img : List ℕ) {f : Free} {img' img'' : List ℕ} → chained f img' ≡ chaining S ms (M * S) no_free img
    → img'' ≡ over img' (256 * info_sector + info_first) (six f.first f.last f.count) → img'' ≡ free_mended M S ms img
unfolding free_mended
free-mended M S ms img d e = rw (← d) e

-- ---- the refusals, in order

module _ (img : List ℕ) (M S : ℕ) {right : Bool} (a : right ≡ directory_right img M S) where
  pub tried-wrong : right ≡ false → told 42 img ≡ tried img M S
  unfolding tried
  tried-wrong h = rw (← a, h) refl

  module _ {twin : Bool} (h : right ≡ true) (c : twin ≡ twins img (slots img M S)) where
    pub tried-twins : twin ≡ true → told 43 img ≡ tried img M S
    unfolding tried
    tried-twins k = rw (← a, h, ← c, k) refl

    pub tried-mended : {img' : List ℕ} → twin ≡ false → img' ≡ mended img M S → told 0 img' ≡ tried img M S
    unfolding tried
    tried-mended k e = rw (← a, h, ← c, k, e) refl

-- room for n marks, of k
pub room-few : (n k l : ℕ) → n ≤ k → k ≡ l → n ≤ l
room-few n k l h e = omega arith

pub room-taken : (n k : ℕ) (us : List ℕ) → n ≤ k → k ≡ length us → n ≡ length (take n us)
room-taken n k us h e = sym (length-take-le n us (room-few n k (length us) h e))

pub room-each : (M S n k : ℕ) (us : List ℕ) → n ≡ M * S → n ≤ k → k ≡ length us → length (take n us) ≡ M * S
room-each M S n k us d h e = sym (room-taken n k us h e) ∙ d

pub few-sectors : (M S n : ℕ) → n ≡ M * S → Shape M S → n ≤ most_tracks * most_sectors
few-sectors M S n e z = omega (arith, data-few M S z)

module _ (img tab : List ℕ) where
  pub repair-table : (length tab ≡ block_length * blocks → ⊥) → told 13 img ≡ repair img tab
  unfolding repair
  repair-table h = rw (ne_eqb (length tab) (block_length * blocks) h) refl

  module _ {closed : Bool} (t : length tab ≡ block_length * blocks) (a : closed ≡ all_closed tab blocks) where
    pub repair-open : closed ≡ false → told 2 img ≡ repair img tab
    unfolding repair
    repair-open h = rw (eq-eqb (length tab) (block_length * blocks) t, ← a, h) refl

    module _ {s : Option read.Shape} (h : closed ≡ true) (e : s ≡ shape_of img) where
      pub repair-wrong : s ≡ None → told 41 img ≡ repair img tab
      unfolding repair
      repair-wrong k = rw (eq-eqb (length tab) (block_length * blocks) t, ← a, h, none-is img e k) refl

      pub repair-right : {d : read.Shape} {w : Told} → s ≡ Some d → w ≡ tried img d.last d.per → w ≡ repair img tab
      unfolding repair tried
      repair-right k q =
          let r = some_is img e k in
          rw (eq-eqb (length tab) (block_length * blocks) t, ← a, h, r.0) (rw (r.1, r.2) at q)

pub repair-shape : (img : List ℕ) {s : Option read.Shape} {d : read.Shape} → s ≡ shape_of img → s ≡ Some d → Shape d.last d.per
repair-shape img e k = let r = some_is img e k in rw (r.1, r.2) (shape_is img r.0).shape
