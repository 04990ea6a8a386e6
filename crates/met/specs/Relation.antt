-- What image and table must be for a ledger; and the step by which both change.
use Rattle.std.specs.Prelude.{◌≡◌, refl, ◌≢◌, true, false, List, [], ◌++◌, ℕ, zero, suc, ◌+◌, ◌-◌, ◌*◌, ◌/◌, ◌≤◌, ◌<◌, length, get_or, set}
use Rattle.std.proofs.Common.{sym, ap, ◌∙◌, subst, arith, length-append, length-set, get_or-set_same, get_or-set_other}
use Rattle.std.proofs.Math.Decide.{ℕ_discrete}
use Rattle.std.proofs.Math.ListN.{get_or-append}
use Rattle.rules.specs.Image.{adr}
use Rattle.rules.specs.Bytes.{word_at, part, zeros, flat}
use Rattle.rules.specs.Directory.{live, slots_of, place_of, last_of, first}
use Rattle.laws.specs.Bytes.{word_same, part_same}
use Rattle.chains.specs.Tally.{tally, tally-append, tally-set, tally-one, tally-two}
use Rattle.chains.specs.Once.{Once, once-eq, once-le}
use Rattle.laws.specs.Addresses.{Shape}
use Rattle.chains.specs.Addresses.{Sized, room_for}
use Rattle.chains.specs.Chain.{Seg, Chain, pieces, contents, seg_same, pieces-same, chain_same}
use Rattle.chains.specs.Directory.{Listing}
use Rattle.chains.specs.Walk.{data_of, tally-data}
use Rattle.chains.specs.Frame.{Address, Frame}
use Rattle.demands.specs.Ledger.{File, no_file, Block, closed, listing, reading, writing, Ledger, secs_of, set_block, set_free}

-- byte i of block n, and the number of two bytes there
abbrev pub tb : List ℕ → ℕ → ℕ → ℕ
tb tab n i = get_or tab (320 * n + i) 0

abbrev pub t2 : List ℕ → ℕ → ℕ → ℕ
t2 tab n i = word_at tab (320 * n + i)

-- its place
abbrev pub tp : List ℕ → ℕ → List ℕ
tp tab n = part tab (320 * n + 47) 3

-- one more than the slot that is open, or written; 0 for none
abbrev pub opens : Block → ℕ
opens closed = 0
opens (listing p) = 0
opens (reading s j i) = suc s
opens (writing s ub) = suc s

abbrev pub writes : Block → ℕ
writes closed = 0
writes (listing p) = 0
writes (reading s j i) = 0
writes (writing s ub) = suc s

-- ---- the image: of the slot at o

pub record Holds (S : ℕ) (m : List ℕ) (o : ℕ) (f : File) : Type 0 where
  pub at : f.at ≡ o
  pub name : part m o 11 ≡ f.name
  pub mode : part m (o + 11) 2 ≡ f.mode
  pub ends : part m (o + 13) 6 ≡ f.ends
  pub map : part m (o + 19) 1 ≡ f.map
  pub date : part m (o + 20) 4 ≡ f.date
  pub chain : live f.name 0 ≡ true → Chain S m (o + 13) f.secs
  pub dead : live f.name 0 ≡ false → f.secs ≡ []
  pub recs : f.recs ≡ pieces 2 2 m f.secs
  pub body : f.body ≡ contents m f.secs

-- ---- the table: of block n, whose slots begin at os. A block is related to the table and to its file, never to the image

pub record Reading (S : ℕ) (os tab : List ℕ) (n : ℕ) (f : File) (s j i : ℕ) : Type 0 where
  pub act : tb tab n 2 ≡ 1
  pub drive : tb tab n 3 ≡ 0
  pub slot : s < length os
  pub alive : live f.name 0 ≡ true
  pub place : tp tab n ≡ place_of S (get_or os s 0)
  pub start : t2 tab n 17 ≡ adr S (get_or f.secs 0 0)
  pub loaded : j ≤ length f.secs
  pub before : j ≡ 0 → t2 tab n 30 ≡ 0
  pub after : 1 ≤ j → t2 tab n 30 ≢ 0
  pub link : 1 ≤ j → t2 tab n 64 ≡ adr S (get_or f.secs j 0)
  pub at : tb tab n 34 ≡ i
  pub within : 1 ≤ i → (5 ≤ i) × (i < 256) × (1 ≤ j)
  pub buffer : 1 ≤ i → (k : ℕ) → k < 252 → tb tab n (68 + k) ≡ get_or (get_or f.body (j - 1) []) k 0

pub record Writing (S : ℕ) (os tab : List ℕ) (n : ℕ) (f : File) (s : ℕ) (ub : List ℕ) : Type 0 where
  pub act : tb tab n 2 ≡ 2
  pub drive : tb tab n 3 ≡ 0
  pub slot : s < length os
  pub alive : live f.name 0 ≡ true
  pub place : tp tab n ≡ place_of S (get_or os s 0)
  pub start : t2 tab n 17 ≡ adr S (first f.secs 0)
  pub size : t2 tab n 21 ≡ length f.secs
  pub pos : t2 tab n 30 ≡ adr S (last_of f.secs 0)
  pub idle : length ub ≡ 0 → tb tab n 34 ≡ 0
  pub busy : 1 ≤ length ub → tb tab n 34 ≡ 4 + length ub
  pub short : length ub < 252
  pub some : 1 ≤ length ub → 1 ≤ length f.secs
  pub buffer : 1 ≤ length ub → (k : ℕ) → k < 252 → tb tab n (68 + k) ≡ get_or ub k 0

-- the place of a block in the directory: 0,0,0, then that of the slot last shown
abbrev pub place_by : ℕ → List ℕ → ℕ → List ℕ
place_by S os zero = zeros 3
place_by S os (suc s) = place_of S (get_or os s 0)

pub record Listed (S : ℕ) (os tab : List ℕ) (n p : ℕ) : Type 0 where
  pub act : tb tab n 2 ≡ 16
  pub shown : p ≤ length os
  pub place : tp tab n ≡ place_by S os p

abbrev pub Keeps : ℕ → List ℕ → List ℕ → ℕ → List File → Block → Type 0
Keeps S os tab n fs closed = tb tab n 2 ≡ 0
Keeps S os tab n fs (listing p) = Listed S os tab n p
Keeps S os tab n fs (reading s j i) = Reading S os tab n (get_or fs s no_file) s j i
Keeps S os tab n fs (writing s ub) = Writing S os tab n (get_or fs s no_file) s ub

-- THE RELATION, for a diskette of M, S
pub record Agrees (M S : ℕ) (img tab : List ℕ) (a : Ledger) : Type 0 where
  pub shaped : Sized M S img
  pub tlen : length tab ≡ 2560
  pub listing : Listing M S a.dir
  pub dir : Seg S img a.dir 0
  pub heads : a.heads ≡ pieces 2 14 img a.dir
  pub ns : length a.slots ≡ length (slots_of a.dir)
  pub nb : length a.blocks ≡ 8
  pub free : Chain S img 541 a.free
  pub holds : (s : ℕ) → s < length (slots_of a.dir) → Holds S img (get_or (slots_of a.dir) s 0) (get_or a.slots s no_file)
  pub keeps : (n : ℕ) → n < 8 → Keeps S (slots_of a.dir) tab n a.slots (get_or a.blocks n closed)
  pub alone : (n n' : ℕ) → n ≢ n' → n < 8 → n' < 8 → 1 ≤ writes (get_or a.blocks n closed)
      → writes (get_or a.blocks n closed) ≢ opens (get_or a.blocks n' closed)
  pub once : Once S ((M + 1) * S) (a.free ++ (data_of S a.dir ++ flat secs_of a.slots))
  -- bytes of free sectors, of addresses, and of track 0 where neither record nor directory is
  pub spare : a.spare ≡ pieces 2 254 img a.free
  pub small : (p : ℕ) → Address p → get_or img p 0 < 256
  pub len : length img ≡ length a.base
  pub aside : (p : ℕ) → p < 256 * S → (541 ≤ p → p < 547 → ⊥) → tally (p / 256) a.dir ≡ 0 → get_or img p 0 ≡ get_or a.base p 0

-- ---- frames of the table

abbrev pub Rest : List ℕ → List ℕ → ℕ → Type 0
Rest tab tab' n = (i : ℕ) → (2 ≤ i) × (i < 320) → tb tab' n i ≡ tb tab n i

pub t2-same : (tab tab' : List ℕ) (n i : ℕ) → tb tab' n i ≡ tb tab n i → tb tab' n (i + 1) ≡ tb tab n (i + 1) → t2 tab' n i ≡ t2 tab n i
t2-same tab tab' n i a b = word_same tab tab' (320 * n + i) (320 * n + i) a (subst (λ (p : ℕ). get_or tab' p 0 ≡ get_or tab p 0) (omega arith) b)

pub tp-same : (tab tab' : List ℕ) (n : ℕ) → ((i : ℕ) → (47 ≤ i) × (i < 50) → tb tab' n i ≡ tb tab n i) → tp tab' n ≡ tp tab n
tp-same tab tab' n s =
    part_same tab tab' (320 * n + 47) (320 * n + 47) 3 (λ i h. subst (λ (p : ℕ). get_or tab' p 0 ≡ get_or tab p 0) (omega arith) (s (47 + i) (omega arith)))

rest2 : (tab tab' : List ℕ) (n i : ℕ) → (2 ≤ i) × (i + 1 < 320) → Rest tab tab' n → t2 tab' n i ≡ t2 tab n i
rest2 tab tab' n i h r = t2-same tab tab' n i (r i (omega arith)) (r (i + 1) (omega arith))

rest-place : (tab tab' : List ℕ) (n : ℕ) → Rest tab tab' n → tp tab' n ≡ tp tab n
rest-place tab tab' n r = tp-same tab tab' n (λ i h. r i (omega (arith, h)))

-- a block whose bytes from 2 on, and whose file, are kept is what it was
pub keeps_same : (S : ℕ) (os tab tab' : List ℕ) (n : ℕ) (fs fs' : List File) (b : Block) → Rest tab tab' n
    → (1 ≤ opens b → (s : ℕ) → suc s ≡ opens b → get_or fs' s no_file ≡ get_or fs s no_file) → Keeps S os tab n fs b → Keeps S os tab' n fs' b
keeps_same S os tab tab' n fs fs' closed r e k = r 2 (omega arith) ∙ k
keeps_same S os tab tab' n fs fs' (listing p) r e k =
    record { act = r 2 (omega arith) ∙ k.act; shown = k.shown; place = rest-place tab tab' n r ∙ k.place }
keeps_same S os tab tab' n fs fs' (reading s j i) r e k =
    let t : Reading S os tab' n (get_or fs s no_file) s j i = record {
      act = r 2 (omega arith) ∙ k.act;
      drive = r 3 (omega arith) ∙ k.drive;
      slot = k.slot;
      alive = k.alive;
      place = rest-place tab tab' n r ∙ k.place;
      start = rest2 tab tab' n 17 (omega arith) r ∙ k.start;
      loaded = k.loaded;
      before = λ h. rest2 tab tab' n 30 (omega arith) r ∙ k.before h;
      after = λ h q. k.after h (sym (rest2 tab tab' n 30 (omega arith) r) ∙ q);
      link = λ h. rest2 tab tab' n 64 (omega arith) r ∙ k.link h;
      at = r 34 (omega arith) ∙ k.at;
      within = k.within;
      buffer = λ h c l. r (68 + c) (omega arith) ∙ k.buffer h c l;
    } in
    subst (λ (f : File). Reading S os tab' n f s j i) (sym (e (omega arith) s refl)) t
keeps_same S os tab tab' n fs fs' (writing s ub) r e k =
    let t : Writing S os tab' n (get_or fs s no_file) s ub = record {
      act = r 2 (omega arith) ∙ k.act;
      drive = r 3 (omega arith) ∙ k.drive;
      slot = k.slot;
      alive = k.alive;
      place = rest-place tab tab' n r ∙ k.place;
      start = rest2 tab tab' n 17 (omega arith) r ∙ k.start;
      size = rest2 tab tab' n 21 (omega arith) r ∙ k.size;
      pos = rest2 tab tab' n 30 (omega arith) r ∙ k.pos;
      idle = λ h. r 34 (omega arith) ∙ k.idle h;
      busy = λ h. r 34 (omega arith) ∙ k.busy h;
      short = k.short;
      some = k.some;
      buffer = λ h c l. r (68 + c) (omega arith) ∙ k.buffer h c l;
    } in
    subst (λ (f : File). Writing S os tab' n f s ub) (sym (e (omega arith) s refl)) t

-- and with more slots behind its own
pub keeps-more : (S : ℕ) (os ps tab : List ℕ) (n : ℕ) (fs gs : List File) (b : Block) → length fs ≡ length os → Keeps S os tab n fs b → Keeps S (os ++ ps) tab n (fs ++ gs) b
keeps-more S os ps tab n fs gs closed e k = k
keeps-more S os ps tab n fs gs (listing p) e k =
    record { act = k.act; shown = omega (arith, k.shown, length-append os ps); place = k.place ∙ by p k.shown }
  where
    by : (p : ℕ) → p ≤ length os → place_by S os p ≡ place_by S (os ++ ps) p
    by zero h = refl
    by (suc s) h = ap (place_of S) (sym (get_or-append os ps 0 s (omega arith)))
keeps-more S os ps tab n fs gs (reading s j i) e k =
    let t : Reading S (os ++ ps) tab n (get_or fs s no_file) s j i = record {
      act = k.act;
      drive = k.drive;
      slot = omega (arith, k.slot, length-append os ps);
      alive = k.alive;
      place = k.place ∙ ap (place_of S) (sym (get_or-append os ps 0 s k.slot));
      start = k.start;
      loaded = k.loaded;
      before = k.before;
      after = k.after;
      link = k.link;
      at = k.at;
      within = k.within;
      buffer = k.buffer;
    } in
    subst (λ (f : File). Reading S (os ++ ps) tab n f s j i) (sym (get_or-append fs gs no_file s (omega (arith, k.slot, e)))) t
keeps-more S os ps tab n fs gs (writing s ub) e k =
    let t : Writing S (os ++ ps) tab n (get_or fs s no_file) s ub = record {
      act = k.act;
      drive = k.drive;
      slot = omega (arith, k.slot, length-append os ps);
      alive = k.alive;
      place = k.place ∙ ap (place_of S) (sym (get_or-append os ps 0 s k.slot));
      start = k.start;
      size = k.size;
      pos = k.pos;
      idle = k.idle;
      busy = k.busy;
      short = k.short;
      some = k.some;
      buffer = k.buffer;
    } in
    subst (λ (f : File). Writing S (os ++ ps) tab n f s ub) (sym (get_or-append fs gs no_file s (omega (arith, k.slot, e)))) t

-- ---- frames of the image: a slot whose bytes and sectors are kept

pub holds_same : (S : ℕ) (m m' : List ℕ) (o : ℕ) (f : File) → ((i : ℕ) → i < 24 → get_or m' (o + i) 0 ≡ get_or m (o + i) 0)
    → ((j i : ℕ) → 1 ≤ tally j f.secs → i < 256 → get_or m' (256 * j + i) 0 ≡ get_or m (256 * j + i) 0) → Holds S m o f → Holds S m' o f
holds_same S m m' o f k g h =
    record {
      at = h.at;
      name = part_same m m' o o 11 (λ i c. k i (omega arith)) ∙ h.name;
      mode = part_same m m' (o + 11) (o + 11) 2 (λ i c. at (11 + i) (omega arith) (omega arith)) ∙ h.mode;
      ends = part_same m m' (o + 13) (o + 13) 6 (λ i c. at (13 + i) (omega arith) (omega arith)) ∙ h.ends;
      map = part_same m m' (o + 19) (o + 19) 1 (λ i c. at (19 + i) (omega arith) (omega arith)) ∙ h.map;
      date = part_same m m' (o + 20) (o + 20) 4 (λ i c. at (20 + i) (omega arith) (omega arith)) ∙ h.date;
      chain = λ v. chain_same S m m' f.secs (o + 13) (λ i c. at (13 + i) (omega arith) (omega arith)) (λ j i t c. g j i t (omega arith)) (h.chain v);
      dead = h.dead;
      recs = h.recs ∙ sym (pieces-same 2 2 m m' f.secs (λ j i t u v. g j i t (omega arith)));
      body = h.body ∙ sym (pieces-same 4 252 m m' f.secs (λ j i t u v. g j i t v));
    }
  where
    at : (i : ℕ) {p : ℕ} → i < 24 → o + i ≡ p → get_or m' p 0 ≡ get_or m p 0
    at i {p} b e = subst (λ (x : ℕ). get_or m' x 0 ≡ get_or m x 0) e (k i b)

-- ---- THE STEP: block n becomes b, slot s becomes f, the free chain fr; the sectors ks alone are stored to

pub record Turn (tab tab' : List ℕ) (n : ℕ) : Type 0 where
  pub len : length tab' ≡ length tab
  pub others : (n' : ℕ) → n' ≢ n → Rest tab tab' n'

module _ (M S : ℕ) (z : Shape M S) (img tab : List ℕ) (a : Ledger) (r : Agrees M S img tab a) where
  -- the three kinds of owner
  tally-all : (x : ℕ) → tally x (a.free ++ (data_of S a.dir ++ flat secs_of a.slots)) ≡ tally x a.free + tally x (data_of S a.dir) + tally x (flat secs_of a.slots)
  tally-all x =
      omega (arith, tally-append x a.free (data_of S a.dir ++ flat secs_of a.slots), tally-append x (data_of S a.dir) (flat secs_of a.slots))

  three-le : (x : ℕ) → tally x a.free + tally x (data_of S a.dir) + tally x (flat secs_of a.slots) ≤ 1
  three-le x = omega (arith, tally-all x, once-le S ((M + 1) * S) (a.free ++ (data_of S a.dir ++ flat secs_of a.slots)) r.once x)

  pub all-le : (x : ℕ) → tally x a.free + tally x (flat secs_of a.slots) ≤ 1
  all-le x = omega (arith, three-le x)

  pub all-low : (x : ℕ) → 1 ≤ tally x a.free + tally x (flat secs_of a.slots) → S ≤ x
  all-low x h = r.once.low x (omega (arith, tally-all x))

  pub all-high : (x : ℕ) → 1 ≤ tally x a.free + tally x (flat secs_of a.slots) → x < (M + 1) * S
  all-high x h = r.once.high x (omega (arith, tally-all x))

  -- a sector that is free, or a file's, is none of the directory
  pub all-off : (x : ℕ) → 1 ≤ tally x a.free + tally x (flat secs_of a.slots) → tally x a.dir ≡ 0
  all-off x h = omega (arith, three-le x, tally-data S a.dir x (all-low x h))

  pub slot-le : (s x : ℕ) → s < length (slots_of a.dir) → tally x (secs_of (get_or a.slots s no_file)) ≤ tally x (flat secs_of a.slots)
  slot-le s x b = tally-one secs_of x a.slots s no_file (omega (arith, r.ns))

  pub long : 2560 ≤ length img
  long = omega (arith, r.shaped.size, room_for M S z)

  -- blocks other than n: the file that they have open stays as it is
  blocks_step : (tab' : List ℕ) (n : ℕ) (b : Block) (slots' : List File) → n < 8 → Turn tab tab' n → Keeps S (slots_of a.dir) tab' n slots' b
      → ((n' : ℕ) → n' < 8 → n' ≢ n → 1 ≤ opens (get_or a.blocks n' closed) → (s : ℕ) → suc s ≡ opens (get_or a.blocks n' closed) → get_or slots' s no_file ≡ get_or a.slots s no_file)
      → (n' : ℕ) → n' < 8 → Keeps S (slots_of a.dir) tab' n' slots' (get_or (set a.blocks n b) n' closed)
  blocks_step tab' n b slots' h t k o n' h' = go (ℕ_discrete n' n)
    where
      go : Dec (n' ≡ n) → Keeps S (slots_of a.dir) tab' n' slots' (get_or (set a.blocks n b) n' closed)
      go (yes e) =
          subst (λ (c : ℕ). Keeps S (slots_of a.dir) tab' c slots' (get_or (set a.blocks n b) c closed)) (sym e)
          (subst (λ (u : Block). Keeps S (slots_of a.dir) tab' n slots' u) (sym (get_or-set_same a.blocks n b closed (omega (arith, r.nb)))) k)
      go (no e) =
          subst (λ (u : Block). Keeps S (slots_of a.dir) tab' n' slots' u) (sym (get_or-set_other a.blocks n n' b closed e))
          (keeps_same S (slots_of a.dir) tab tab' n' a.slots slots' (get_or a.blocks n' closed) (t.others n' e) (o n' h' e) (r.keeps n' h'))

  -- block n becomes b: it writes no slot that another has open, and opens none that another writes
  pub alone-step : (n : ℕ) (b : Block) → n < 8
      → ((n' : ℕ) → n' < 8 → n' ≢ n → 1 ≤ writes b → writes b ≢ opens (get_or a.blocks n' closed))
      → ((n' : ℕ) → n' < 8 → n' ≢ n → 1 ≤ opens b → writes (get_or a.blocks n' closed) ≢ opens b)
      → (x y : ℕ) → x ≢ y → x < 8 → y < 8 → 1 ≤ writes (get_or (set a.blocks n b) x closed) → writes (get_or (set a.blocks n b) x closed) ≢ opens (get_or (set a.blocks n b) y closed)
  alone-step n b h p q x y ne hx hy = go (ℕ_discrete x n) (ℕ_discrete y n)
    where
      is : (x : ℕ) → x ≡ n → get_or (set a.blocks n b) x closed ≡ b
      is x e = ap (λ (c : ℕ). get_or (set a.blocks n b) c closed) e ∙ get_or-set_same a.blocks n b closed (omega (arith, r.nb))

      go : Dec (x ≡ n) → Dec (y ≡ n) → 1 ≤ writes (get_or (set a.blocks n b) x closed)
          → writes (get_or (set a.blocks n b) x closed) ≢ opens (get_or (set a.blocks n b) y closed)
      go (yes e) (yes e') = absurd (ne (e ∙ sym e'))
      go (yes e) (no e') = rw (is x e, get_or-set_other a.blocks n y b closed e') (p y hy e')
      go (no e) (yes e') = rw (is y e', get_or-set_other a.blocks n x b closed e) (λ w z. q x hx e (omega arith) z)
      go (no e) (no e') = rw (get_or-set_other a.blocks n x b closed e, get_or-set_other a.blocks n y b closed e') (r.alone x y ne hx hy)

  -- the image is as it was: block n alone changes
  pub step_block : (tab' : List ℕ) (n : ℕ) (b : Block) → n < 8 → Turn tab tab' n → Keeps S (slots_of a.dir) tab' n a.slots b
      → ((n' : ℕ) → n' < 8 → n' ≢ n → 1 ≤ writes b → writes b ≢ opens (get_or a.blocks n' closed))
      → ((n' : ℕ) → n' < 8 → n' ≢ n → 1 ≤ opens b → writes (get_or a.blocks n' closed) ≢ opens b)
      → Agrees M S img tab' (set_block a n b)
  step_block tab' n b h t k p q =
      record {
        shaped = r.shaped;
        tlen = t.len ∙ r.tlen;
        listing = r.listing;
        dir = r.dir;
        heads = r.heads;
        ns = r.ns;
        nb = length-set a.blocks n b ∙ r.nb;
        free = r.free;
        holds = r.holds;
        keeps = blocks_step tab' n b a.slots h t k (λ n' h' e o s z. refl);
        alone = alone-step n b h p q;
        once = r.once;
        spare = r.spare;
        small = r.small;
        len = r.len;
        aside = r.aside;
      }

  pub step : (img' tab' ks fr : List ℕ) (vs : List (List ℕ)) (n s : ℕ) (f : File) (b : Block) → n < 8 → s < length (slots_of a.dir) → Frame S a.dir img img' ks s
      → Turn tab tab' n
      → Chain S img' 541 fr → vs ≡ pieces 2 254 img' fr → Holds S img' (get_or (slots_of a.dir) s 0) f → Keeps S (slots_of a.dir) tab' n (set a.slots s f) b
      → ((x : ℕ) → 1 ≤ tally x ks → 1 ≤ tally x a.free + tally x (secs_of (get_or a.slots s no_file)))
      → ((x : ℕ) → tally x fr + tally x (secs_of f) ≡ tally x a.free + tally x (secs_of (get_or a.slots s no_file)))
      → ((n' : ℕ) → n' < 8 → n' ≢ n → opens (get_or a.blocks n' closed) ≢ suc s)
      → ((n' : ℕ) → n' < 8 → n' ≢ n → 1 ≤ writes b → writes b ≢ opens (get_or a.blocks n' closed))
      → ((n' : ℕ) → n' < 8 → n' ≢ n → 1 ≤ opens b → writes (get_or a.blocks n' closed) ≢ opens b)
      → Agrees M S img' tab' (set_free a fr vs s f n b)
  step img' tab' ks fr vs n s f b hn hs g t fc sp hf kb inks tal other p q =
      record {
        shaped = record { last = g.shape 550 (omega arith) (omega arith) ∙ r.shaped.last; per = g.shape 551 (omega arith) (omega arith) ∙ r.shaped.per; size = g.len ∙ r.shaped.size };
        tlen = t.len ∙ r.tlen;
        listing = r.listing;
        dir = seg_same S img img' a.dir 0 (λ j i h c. g.heads j i h (omega arith)) r.dir;
        heads = r.heads ∙ sym (pieces-same 2 14 img img' a.dir (λ j i t u v. g.heads j i t (omega arith)));
        ns = length-set a.slots s f ∙ r.ns;
        nb = length-set a.blocks n b ∙ r.nb;
        free = fc;
        holds = λ s' h'. one s' h' (ℕ_discrete s' s);
        keeps = blocks_step tab' n b (set a.slots s f) hn t kb
            (λ n' h' e o s' z. get_or-set_other a.slots s s' f no_file (λ w. other n' h' e (sym z ∙ ap suc w)));
        alone = alone-step n b hn p q;
        once = once-eq S ((M + 1) * S) (a.free ++ (data_of S a.dir ++ flat secs_of a.slots)) (fr ++ (data_of S a.dir ++ flat secs_of (set a.slots s f)))
            (λ x. omega (
              arith,
              tally-all x,
              tally-append x fr (data_of S a.dir ++ flat secs_of (set a.slots s f)),
              tally-append x (data_of S a.dir) (flat secs_of (set a.slots s f)),
              tally-set secs_of x a.slots s f no_file (omega (arith, r.ns)),
              tal x,
            ))
            r.once;
        spare = sp;
        small = λ x w. g.small x w (r.small x w);
        len = g.len ∙ r.len;
        aside = λ x low rec off. g.aside x low rec off ∙ r.aside x low rec off;
      }
    where
      clear : (s' : ℕ) → s' < length (slots_of a.dir) → s' ≢ s → (x : ℕ) → 1 ≤ tally x (secs_of (get_or a.slots s' no_file)) → tally x ks ≡ 0
      clear s' b' ne x t = go (tally x ks) refl
        where
          go : (c : ℕ) → tally x ks ≡ c → c ≡ 0
          go zero e = refl
          go (suc c) e =
              absurd (omega (
                arith,
                inks x (omega arith),
                all-le x,
                tally-two secs_of x a.slots s' s no_file ne (omega (arith, r.ns)) (omega (arith, r.ns)),
              ))

      one : (s' : ℕ) → s' < length (slots_of a.dir) → Dec (s' ≡ s) → Holds S img' (get_or (slots_of a.dir) s' 0) (get_or (set a.slots s f) s' no_file)
      one s' b' (yes e) =
          subst (λ (k : ℕ). Holds S img' (get_or (slots_of a.dir) k 0) (get_or (set a.slots s f) k no_file)) (sym e)
          (subst (λ (u : File). Holds S img' (get_or (slots_of a.dir) s 0) u) (sym (get_or-set_same a.slots s f no_file (omega (arith, r.ns)))) hf)
      one s' b' (no e) =
          subst (λ (u : File). Holds S img' (get_or (slots_of a.dir) s' 0) u) (sym (get_or-set_other a.slots s s' f no_file e))
          (holds_same S img img' (get_or (slots_of a.dir) s' 0) (get_or a.slots s' no_file)
          (λ i c. g.slots s' i b' e c)
          (λ j i w c. let t : 1 ≤ tally j a.free + tally j (flat secs_of a.slots) = omega (arith, w, slot-le s' j b') in
          g.sectors j i (all-low j t) (all-off j t) (clear s' b' e j w) c)
          (r.holds s' b'))
