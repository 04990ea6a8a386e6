-- EVERY CALL makes stores of one of the kinds, on a machine that agrees with a ledger. Three functions make more than one store: function 0 in writing
-- where it takes a sector, delete, and open for write where the directory grows.
use Rattle.std.specs.Prelude.{◌≡◌, ◌≢◌, Bool, get_or, ltb}
use Rattle.std.proofs.Math.Path.{refl, ap, subst}
use Rattle.std.proofs.Common.{sym, ◌∙◌, arith}
use Rattle.std.proofs.Math.Bool.{true, false}
use mathlib.Core.List.{List, [], ◌∷◌, ◌++◌}
use Prim.Native.Nat.{ℕ, ◌+◌, ◌*◌, ◌/◌, ◌%◌, ◌≤◌, ◌<◌}
use Rattle.std.proofs.Math.Decide.{dec_lt}
use Rattle.std.proofs.Math.ListN.{length, length-append}
use Rattle.std.proofs.Math.Dec.{eqb}
use borrow.Author.Tests.{eqb-true, eqb-false}
use Rattle.rules.specs.Bytes.{pick, within, part, one, two, zeros, same}
use Rattle.rules.specs.Stores.{store, Put}
use Rattle.rules.specs.Image.{index, is_sector, is_data, first_free, last_free, free_count, adr}
use Rattle.rules.specs.Names.{legal}
use Rattle.rules.specs.Directory.{most_of_directory, slots_of, directory_right, directory, slots, slot_behind, find, vacancy, named, place_of, attributes_at, start_at, end_at, size_at, last_of, chain_record}
use Rattle.rules.specs.Outcome.{Outcome, refuse, done, Effect, on_image, settled, on_slot, and_then}
use Rattle.rules.specs.Block.{in_use, position_in, size_in, index_in, name_in, new_name_in, place_in, drive_in}
use Rattle.rules.specs.Transfer.{next_to_read, load, reading as read_byte, slot_in, linked, take_stores, take_for, take_sector, sent, fill, writing as write_byte, transfer, mark, close_writing, close}
use Rattle.rules.specs.Files.{read_protected, write_protected, delete_protected, open_read, new_entry, grow_stores, grow, open_write, rewind, open_directory, shown, next_slot, put_slot, read_sector, write_sector, hang_stores, remove, delete, rename}
use Rattle.rules.specs.Call.{served, fits, checked, perform, asked}
use Rattle.laws.specs.Tests.{pick_all, pick-cases}
use Rattle.laws.specs.Bytes.{length_two, length-six, length-zeros, length_part, length-fresh}
use Rattle.laws.specs.Each.{Each}
use Rattle.laws.specs.Small.{Small, small-two, small-six, small-fresh}
use Rattle.laws.specs.Stores.{SmallStore}
use Rattle.laws.specs.Fair.{on_slot-all, on_none-all, or_else-all}
use Rattle.laws.specs.Effects.{call-right, call-wrong}
use Rattle.laws.specs.Addresses.{Shape}
use Rattle.chains.specs.Tally.{tally, tally-head}
use Rattle.chains.specs.Addresses.{absurd-bool, shape-right}
use Rattle.chains.specs.Chain.{tally-last}
use Rattle.chains.specs.Data.{index-last, last_none}
use Rattle.chains.specs.Directory.{directory-is, spot, spot-sector}
use Rattle.demands.specs.Ledger.{Call, setting, extending, asking, Block, closed, listing, reading, writing, Ledger, Sought, nowhere, slot, file_named, activity, block, file}
use Rattle.demands.specs.Service.{Machine}
use Rattle.demands.specs.Cuts.{in_order, stores_of}
use Rattle.met.specs.Relation.{tb, Writing, Agrees}
use Rattle.met.specs.Quiet.{activity-is}
use Rattle.met.specs.Sectors.{free-data, secs-data}
use Rattle.met.specs.Frees.{first-is, first-index, off-is}
use Rattle.met.specs.Searches.{find-is, looked_up, seek_found}
use Rattle.met.specs.Fills.{w, placed-is}
use Rattle.met.proofs.Runs.{Fine}
use Rattle.cutting.specs.Kinds.{Harmless, Staged, none, lone, early, grows}
use Rattle.cutting.specs.Harms.{record-harmless, free-harmless, last-harmless}

-- refused, or done with such stores
abbrev Stages : ℕ → Ledger → Outcome → Type 0
Stages S a (refuse e) = Unit {0}
Stages S a (done c ss ps) = Staged S a ss

module _ (M S : ℕ) (z : Shape M S) (img tab : List ℕ) (a : Ledger) (r : Agrees M S img tab a) (n : ℕ) (hn : n < 8) (b : ℕ) where
  abbrev f : ℕ
  f = 320 * n

  abbrev P : Outcome → Type 0
  P o = Stages S a o

  then-all : (o : Outcome) (qs : List Put) → P o → P (and_then o qs)
  then-all (refuse e) qs p = tt
  then-all (done c ss ps) qs p = p

  -- ---- functions that store nothing

  reading-all : P (read_byte img tab M S f)
  unfolding read_byte load
  reading-all = pick_all P (eqb (index_in tab f) 0) _ _ (pick_all P (eqb (next_to_read tab f) 0) _ _ tt (pick_all P (is_data M S (next_to_read tab f)) _ _ none tt)) none

  open-read-all : P (open_read img tab M S f)
  unfolding open_read
  open-read-all =
      pick_all P (legal tab (f + 4)) _ _
      (on_slot-all P (find img M S (name_in tab f)) 5 4 _ tt tt
      (λ o e. pick_all P (read_protected (attributes_at img o)) _ _ tt (pick_all P (in_use false tab (place_of S o)) _ _ tt none)))
      tt

  rewind-all : P rewind
  unfolding rewind
  rewind-all = none

  open-directory-all : P open_directory
  unfolding open_directory
  open-directory-all = none

  next-slot-all : P (next_slot img tab M S f)
  unfolding next_slot shown
  next-slot-all =
      pick_all P (same (place_in tab f) (zeros 3)) _ _ (pick_all P (directory_right img M S) _ _ none tt)
      (on_slot-all P (slot_in img tab M S f) 5 5 _ tt tt (λ o e. on_slot-all P (slot_behind o (slots img M S)) 5 8 _ tt tt (λ next g. none)))

  read-sector-all : P (read_sector img tab M S f)
  unfolding read_sector
  read-sector-all = pick_all P (is_sector M S (position_in tab f)) _ _ none tt

  -- ---- functions that make one store

  put-slot-all : P (put_slot img tab M S f)
  unfolding put_slot
  put-slot-all = on_slot-all P (slot_in img tab M S f) 5 5 _ tt tt (λ o e. lone _)

  write-sector-all : P (write_sector img tab M S f)
  unfolding write_sector
  write-sector-all = pick_all P (is_sector M S (position_in tab f)) _ _ (lone _) tt

  rename-all : P (rename img tab M S f)
  unfolding rename
  rename-all =
      pick_all P (legal tab (f + 4)) _ _
      (pick_all P (legal tab (f + 53)) _ _
      (on_slot-all P (find img M S (name_in tab f)) 5 4 _ tt tt
      (λ o e. pick_all P (in_use true tab (place_of S o)) _ _ tt
      (pick_all P (write_protected (attributes_at img o)) _ _ tt
      (on_none-all P (find img M S (new_name_in tab f)) 5 3 _ tt tt (lone _)))))
      tt)
      tt

  close-all : P (close img tab M S f)
  unfolding close close_writing mark
  close-all =
      pick_all P (eqb (tb tab n 2) 2) _ _
      (pick_all P (eqb (position_in tab f) 0) _ _ (on_slot-all P (slot_in img tab M S f) 5 5 _ tt tt (λ o e. lone _))
      (pick_all P (eqb (index_in tab f) 0) _ _ none (pick_all P (is_data M S (position_in tab f)) _ _ (lone _) tt)))
      none

  -- ---- a sector is taken: the record, the new sector, the link of the file's last one, the slot

  module _ (s : ℕ) (hs : s < length (slots_of a.dir)) where
    abbrev o : ℕ
    o = get_or (slots_of a.dir) s 0

    abbrev l : List ℕ
    l = (file a s).secs

    -- a slot stands in the directory
    in-directory : 1 ≤ tally (o / 256) a.dir
    in-directory =
        let t = spot M S a.dir r.listing s hs in
        subst (λ (x : ℕ). 1 ≤ tally x a.dir) (sym (spot-sector M S a.dir s o t).0) t.inside

    link-small : (u : Bool) (k x : ℕ) → Each SmallStore (linked u k x)
    unfolding linked
    link-small true k x = tt
    link-small false k x = (small-two x, tt)

    link-harmless : (u : Bool) → eqb (length l) 0 ≡ u → (x : ℕ) → Each (Harmless S a) (linked u (last_of l 0) x)
    unfolding linked
    link-harmless true e x = tt
    link-harmless false e x =
        let h : length l ≢ 0 = eqb-false (length l) 0 e in (last-harmless M S z img tab a r s hs (omega arith) (two x) (length_two x), tt)

    -- a free sector k gets these bytes
    take-staged : (k x : ℕ) (rec bytes entry : List ℕ) → 1 ≤ tally k a.free → length rec ≡ 6 → length bytes ≡ 256 → Small rec → Small bytes
        → Staged S a (store 2 29 rec ∷ store k 0 bytes ∷ (linked (eqb (length l) 0) (last_of l 0) x ++ store (o / 256) (o % 256 + 13) entry ∷ []))
    take-staged k x rec bytes entry t lr lb sr sb =
        early (store 2 29 rec ∷ store k 0 bytes ∷ linked (eqb (length l) 0) (last_of l 0) x) (store (o / 256) (o % 256 + 13) entry)
        (record-harmless M S z img tab a r rec lr, (free-harmless M S z img tab a r k 0 bytes t (omega (arith, lb)), link-harmless (eqb (length l) 0) refl x))
        (sr, (sb, link-small (eqb (length l) 0) (last_of l 0) x)) in-directory

    takes : (k : ℕ) (fr : List ℕ) → a.free ≡ k ∷ fr → position_in tab f ≡ adr S (last_of l 0) → Staged S a (take_stores img tab M S f o)
    unfolding take_stores
    takes k fr ef ep =
        let t : 1 ≤ tally k a.free = subst (λ (x : List ℕ). 1 ≤ tally k x) (sym ef) (tally-head k fr) in
        let sd = secs-data M S z img tab a r s hs in
        rw (off-is M S z img tab a r k fr ef, first-is M S z img tab a r k fr ef, first-index M S z img tab a r k fr ef, ep, index-last M S z l sd, last_none M S z l sd)
        (take-staged k (adr S k) _ _ _ t (length-six _ _ _) (length-fresh _) (small-six _ _ _) (small-fresh _))

    -- ---- a chain is hung behind the free chain: its last link, the record, the mark

    hangs : (u : Bool) (k x : ℕ) (rec : List ℕ) → (u ≡ false → 1 ≤ tally k a.free) → length rec ≡ 6 → Small rec
        → Staged S a (linked u k x ++ (store 2 29 rec ∷ mark o))
    unfolding linked mark
    hangs true k x rec h lr sr =
        early (store 2 29 rec ∷ []) (store (o / 256) (o % 256) (one 255)) (record-harmless M S z img tab a r rec lr, tt) (sr, tt) in-directory
    hangs false k x rec h lr sr =
        early (store k 0 (two x) ∷ store 2 29 rec ∷ []) (store (o / 256) (o % 256) (one 255))
        (free-harmless M S z img tab a r k 0 (two x) (h refl) (omega (arith, length_two x)), (record-harmless M S z img tab a r rec lr, tt))
        (small-two x, (sr, tt)) in-directory

    last-free : eqb (free_count img) 0 ≡ false → 1 ≤ tally (index S (last_free img)) a.free
    last-free e =
        let h : free_count img ≢ 0 = eqb-false (free_count img) 0 e in
        let i : index S (last_free img) ≡ last_of a.free 0 = ap (index S) r.free.end ∙ index-last M S z a.free (free-data M S z img tab a r) in
        subst (λ (x : ℕ). 1 ≤ tally x a.free) (sym i) (tally-last a.free 0 (omega (arith, h, r.free.size)))

    remove-all : P (remove img M S o)
    unfolding remove hang_stores mark
    remove-all =
        pick_all P (eqb (size_at img o) 0) _ _ (lone _)
        (pick_all P (is_data M S (start_at img o)) _ _
        (pick_all P (is_data M S (end_at img o)) _ _
        (pick_all P (pick (eqb (free_count img) 0) true (is_data M S (last_free img))) _ _
        (pick_all P (ltb 65535 (free_count img + size_at img o)) _ _ tt
        (hangs (eqb (free_count img) 0) (index S (last_free img)) (start_at img o) _ last-free (length-six _ _ _) (small-six _ _ _)))
        tt)
        tt)
        tt)

  -- ---- function 0 in writing

  module _ (s : ℕ) (ub : List ℕ) (e : block a n ≡ writing s ub) where
    wr : Writing S (slots_of a.dir) tab n (file a s) s ub
    wr = w M S z img tab a r n hn s ub e

    take_all : P (take_for img tab M S f (get_or (slots_of a.dir) s 0))
    unfolding take_for
    take_all =
        pick_all P (pick (eqb (position_in tab f) 0) true (is_data M S (position_in tab f))) _ _
        (pick-cases P (eqb (free_count img) 0) _ _ (λ h. tt)
        (λ h. pick_all P (is_data M S (first_free img)) _ _ (pick_all P (eqb (size_in tab f) 65535) _ _ tt (go a.free refl h)) tt))
        tt
      where
        go : (fr : List ℕ) → a.free ≡ fr → eqb (free_count img) 0 ≡ false → Staged S a (take_stores img tab M S f (get_or (slots_of a.dir) s 0))
        go [] ef h = absurd (eqb-false (free_count img) 0 h (r.free.size ∙ ap length ef))
        go (k ∷ fr) ef h = takes s wr.slot k fr ef wr.pos

    writing-all : P (write_byte img tab M S f b)
    unfolding write_byte take_sector fill
    writing-all =
        rw (placed-is M S z img tab a r n hn s ub e)
        (pick_all P (eqb (index_in tab f) 0) _ _ (then-all (take_for img tab M S f (get_or (slots_of a.dir) s 0)) (sent 4 b) take_all)
        (pick_all P (eqb (index_in tab f) 255) _ _ (pick_all P (is_data M S (position_in tab f)) _ _ (lone _) tt) none))

  act-is : (o : Block) → block a n ≡ o → tb tab n 2 ≡ activity o
  act-is o e = activity-is S (slots_of a.dir) tab n a.slots (block a n) (r.keeps n hn) ∙ ap activity e

  transfer-all : (o : Block) → block a n ≡ o → fits 0 (activity o) ≡ true → P (transfer img tab M S f b)
  unfolding transfer fits within
  transfer-all closed e h = absurd-bool h refl
  transfer-all (listing p) e h = absurd-bool h refl
  transfer-all (reading s j i) e h = rw (act-is (reading s j i) e) reading-all
  transfer-all (writing s ub) e h = rw (act-is (writing s ub) e) (writing-all s ub e)

  -- ---- delete

  delete-all : P (delete img tab M S f)
  unfolding delete
  delete-all = pick_all P (legal tab (f + 4)) _ _ (rw (find-is M S z img tab a r nm) (go (file_named nm a.slots) refl)) tt
    where
      nm : List ℕ
      nm = name_in tab f

      go : (y : Sought) → file_named nm a.slots ≡ y
          → P (on_slot (looked_up (slots_of a.dir) y) 5 4 (λ o. pick (in_use true tab (place_of S o)) (refuse 2)
          (pick (delete_protected (attributes_at img o)) (refuse 12) (pick (write_protected (attributes_at img o)) (refuse 11) (remove img M S o)))))
      go nowhere e = tt
      go (slot s) e =
          let k = seek_found (λ x. named x nm 0) a.slots s e in
          pick_all P (in_use true tab (place_of S (get_or (slots_of a.dir) s 0))) _ _ tt
          (pick_all P (delete_protected (attributes_at img (get_or (slots_of a.dir) s 0))) _ _ tt
          (pick_all P (write_protected (attributes_at img (get_or (slots_of a.dir) s 0))) _ _ tt (remove-all s (omega (arith, k.low, r.ns)))))

  -- ---- open for write

  length-entry : length (new_entry tab f) ≡ 24
  unfolding new_entry
  length-entry =
      length-append (part tab (f + 4) 11) (zeros 10 ++ part tab (f + 25) 3)
      ∙ omega (arith, length_part tab (f + 4) 11, length-append (zeros 10) (part tab (f + 25) 3), length-zeros 10, length_part tab (f + 25) 3)

  grow-staged : (fr : List ℕ) → a.free ≡ fr → eqb (free_count img) 0 ≡ false → Staged S a (grow_stores img tab M S f)
  unfolding grow_stores
  grow-staged [] ef h = absurd (eqb-false (free_count img) 0 h (r.free.size ∙ ap length ef))
  grow-staged (k ∷ fr) ef h =
      rw (
        off-is M S z img tab a r k fr ef,
        first-is M S z img tab a r k fr ef,
        first-index M S z img tab a r k fr ef,
        (directory-is M S z img a.dir r.listing r.dir).1,
      )
      (unfold chain_record in grows k fr (new_entry tab f) ef length-entry)

  grow-all : P (grow img tab M S f)
  unfolding grow
  grow-all =
      pick-cases P (eqb (free_count img) 0) _ _ (λ h. tt)
      (λ h. pick_all P (is_data M S (first_free img)) _ _
      (pick_all P (ltb (length (directory img M S)) (most_of_directory M S)) _ _ (grow-staged a.free refl h) tt)
      tt)

  open-write-all : P (open_write img tab M S f)
  unfolding open_write
  open-write-all =
      pick_all P (legal tab (f + 4)) _ _
      (on_none-all P (find img M S (name_in tab f)) 5 3 _ tt tt (or_else-all P (vacancy img M S) 5 _ _ tt (λ e. grow-all) (λ o e. lone _)))
      tt

  -- ---- any function

  abbrev code : ℕ
  code = tb tab n 0

  perform-all : fits code (activity (block a n)) ≡ true → P (perform img tab M S f b)
  unfolding perform
  perform-all h =
      pick-cases P (eqb code 0) _ _
      (λ e. transfer-all (block a n) refl (subst (λ (x : ℕ). fits x (activity (block a n)) ≡ true) (eqb-true code 0 e) h))
      (λ e. pick_all P (eqb code 1) _ _ open-read-all
      (pick_all P (eqb code 2) _ _ open-write-all
      (pick_all P (eqb code 4) _ _ close-all
      (pick_all P (eqb code 5) _ _ rewind-all
      (pick_all P (eqb code 6) _ _ open-directory-all
      (pick_all P (eqb code 7) _ _ next-slot-all
      (pick_all P (eqb code 8) _ _ put-slot-all
      (pick_all P (eqb code 9) _ _ read-sector-all
      (pick_all P (eqb code 10) _ _ write-sector-all
      (pick_all P (eqb code 12) _ _ delete-all rename-all))))))))))

  asked-all : P (asked img tab f b)
  unfolding asked checked
  asked-all =
      rw (shape-right M S z img r.shaped, r.shaped.last, r.shaped.per, act-is (block a n) refl)
      (pick_all P (served code) _ _
      (pick_all P (eqb (drive_in tab f) 0) _ _ (pick-cases P (fits code (activity (block a n))) _ _ perform-all (λ h. tt)) tt)
      tt)

-- ---- THE STORES OF ANY CALL

settled-staged : (S : ℕ) (a : Ledger) (o : Outcome) → Stages S a o → Staged S a (on_image (settled o))
settled-staged S a (refuse e) p = none
settled-staged S a (done c ss ps) p = p

-- of any block: 13 by its number stores nothing
asking-staged : (M S : ℕ) → Shape M S → (img tab : List ℕ) (a : Ledger) → Agrees M S img tab a → (n b : ℕ) → Staged S a (in_order img tab n b)
asking-staged M S z img tab a r n b = go (dec_lt n 8)
  where
    go : Dec (n < 8) → Staged S a (in_order img tab n b)
    go (yes h) =
        subst (λ (e : Effect). Staged S a (on_image e)) (sym (call-right img tab n b r.tlen h))
        (settled-staged S a (asked img tab (320 * n) b) (asked-all M S z img tab a r n h b))
    go (no h) = subst (λ (e : Effect). Staged S a (on_image e)) (sym (call-wrong img tab n b (λ p q. h q))) none

pub call-staged : (M S : ℕ) (z : Shape M S) (y : Machine) (a : Ledger) → Fine M S y a → (c : Call) → Staged S a (stores_of in_order y c)
call-staged M S z y a g (setting n i v) = none
call-staged M S z y a g (extending n c) = none
call-staged M S z y a g (asking n b) = asking-staged M S z y.img y.tab a g.agrees n b
