-- What each function may come to, proved: the numbers it is refused with (specs/Facts has them), its stores, its puts. On an image of the right shape;
-- `asked` needs no such thing.
use Rattle.std.specs.Prelude.{◌≡◌, ℕ, ◌+◌, ◌-◌, ◌*◌, ◌/◌, ◌%◌, ◌≤◌, ◌<◌, length, eqb, ltb}
use Rattle.std.proofs.Math.Path.{refl}
use Rattle.std.proofs.Math.Bool.{true, false}
use mathlib.Core.List.{List, [], ◌∷◌}
use native.Mathlib.Omega.{arith}
use Rattle.std.proofs.Math.ListN.{length-append}
use Rattle.rules.specs.Bytes.{pick, part, zeros, same}
use Rattle.rules.specs.Stores.{store}
use Rattle.rules.specs.Image.{last_track, per_track, shape_right, index, is_sector, is_data, link_of, info_sector, info_first, first_free, last_free, free_count}
use Rattle.rules.specs.Names.{legal}
use Rattle.rules.specs.Directory.{first_of_directory, most_of_directory, first_slot_of, member, place_of, slot_behind, last_of, directory_right, directory, last_sector, slots, find, vacancy, attributes_at, start_at, end_at, size_at}
use Rattle.rules.specs.Outcome.{Outcome}
use Rattle.rules.specs.Block.{activity_field, function_field, name_field, start_field, position_field, record_field, index_field, place_field, new_name_field, compression_field, buffer_field, function_in, activity_in, drive_in, size_in, position_in, index_in, name_in, new_name_in, place_in, in_use}
use Rattle.rules.specs.Transfer.{next_to_read, load_puts, load, reading, on_free, off_free, slot_in, linked, new_start, new_size, take_stores, take_puts, take_for, take_sector, sent, fill, writing, transfer, shut, mark, close_writing, close}
use Rattle.rules.specs.Files.{opened, open_read, new_entry, grow_stores, grow, open_write, rewind, open_directory, shown, next_slot, put_slot, read_sector, write_sector, write_protected, delete_protected, read_protected, hang_stores, gone, remove, delete, rename}
use Rattle.rules.specs.Call.{served, fits, misfit, checked, perform, asked}
use Rattle.laws.specs.Tests.{pick_all, pick-cases, pick-each}
use Rattle.laws.specs.Bytes.{length-one}
use Rattle.laws.specs.Each.{Each, each_append, each-own}
use Rattle.laws.specs.Small.{small_one}
use Rattle.laws.specs.Addresses.{Shaped, shape_is, sectors-many, sector-inside, track-inside, data_is, data-high, sector-is, index-high}
use Rattle.laws.specs.Slots.{InDirectory, directory-in, IsSlot, OneOf, find-is, vacancy-is, placed-is}
use Rattle.laws.specs.Fair.{on_slot-all, on_none-all, or_else-all, Run, run-one, run-two, run-six, run-zeros, run-part, run-fresh, run-place, run-append, GoodPut, GoodStore, good-put, good-store, length-linked, good-linked, Fair, fair-still, fair-done, fair-more, fair-then}
use Rattle.laws.proofs.Slots.{slot_is}
use Rattle.laws.specs.Facts.{Given, in_reading, in_writing, in_close, in_open_read, in_open_write, in_next_slot, in_put_slot, in_read_sector, in_write_sector, in_delete, in_rename, refusals, most_stores, in_checks, second, few-take, asked_numbers}

module _ (img tab : List ℕ) (f b : ℕ) (z : Shaped img) where
  abbrev G : Type 0
  G = Given img tab b

  abbrev N : ℕ
  N = length img

  abbrev M : ℕ
  M = last_track img

  abbrev S : ℕ
  S = per_track img

  abbrev F : List ℕ → ℕ → Outcome → Type 0
  F es n o = Fair G N es n o

  -- ---- where the sectors lie

  data-inside : (a : ℕ) → is_data M S a ≡ true → 256 * index S a + 256 ≤ N
  data-inside a h = sector-inside img z (index S a) (data-high M S a (data_is M S a h))

  there-inside : (a : ℕ) → is_sector M S a ≡ true → 256 * index S a + 256 ≤ N
  there-inside a h = sector-inside img z (index S a) (index-high 0 M S a (sector-is M S a h))

  one-is : (o : ℕ) → OneOf img M S o → IsSlot M S o
  one-is o p = slot_is img M S z.shape.sectors o p.one_of

  slot-inside : (o : ℕ) → IsSlot M S o → 256 * (o / 256) + 256 ≤ N
  slot-inside o s = sector-inside img z (o / 256) s.sector_high

  info-inside : 256 * info_sector + 256 ≤ N
  info-inside = track-inside img z info_sector (omega (arith, z.shape))

  -- ---- reading

  good-load : (a k : ℕ) → Each (GoodPut G) (load_puts img a k)
  unfolding load_puts
  good-load a k = (
    good-put G position_field 2 _ (run-two G a) (omega arith),
    (
      good-put G record_field 2 _ (run-part G img _ 2 (λ g. g.image)) (omega arith),
      (
        good-put G buffer_field 256 _ (run-part G img _ 256 (λ g. g.image)) (omega arith),
        (good-put G index_field 1 _ (run-one G 5 (λ g. omega arith)) (omega arith), tt),
      ),
    ),
  )

  load-fair : (a : ℕ) → F in_reading 0 (load img M S a)
  unfolding load member
  load-fair a =
      pick_all (F in_reading 0) (eqb a 0) _ _ refl
      (pick_all (F in_reading 0) (is_data M S a) _ _
      (record { byte = λ g. g.image.at (256 * index S a + 4); few = omega arith; stores = tt; block = good-load a (index S a) })
      refl)

  pub reading-fair : F in_reading 0 (reading img tab M S f)
  unfolding reading
  reading-fair =
      pick_all (F in_reading 0) (eqb (index_in tab f) 0) _ _ (load-fair (next_to_read tab f))
      (record {
        byte = λ g. g.table.at (f + (buffer_field + index_in tab f));
        few = omega arith;
        stores = tt;
        block = (good-put G index_field 1 _ (run-one G _ (λ g. omega arith)) (omega arith), tt);
      })

  -- ---- writing

  -- the free chain without its first sector
  good-off : GoodStore G N (off_free img S)
  unfolding off_free
  good-off =
      good-store G N info_sector info_first 6 _
      (pick_all (Run G 6) (eqb (free_count img) 1) (zeros 6) _ (run-zeros G 6) (run-six G (link_of img (index S (first_free img))) (last_free img) (free_count img - 1)))
      (omega arith) info-inside

  free-fair : (es : List ℕ) (n : ℕ) (o : Outcome) → member 7 es ≡ true → member 10 es ≡ true → (is_data M S (first_free img) ≡ true → F es n o) → F es n (on_free img M S o)
  free-fair es n o m k h =
      pick_all (F es n) (eqb (free_count img) 0) _ _ m (pick-cases (F es n) (is_data M S (first_free img)) _ _ h (λ e. k))

  good-take : (slot : ℕ) → IsSlot M S slot → (eqb (position_in tab f) 0 ≡ false → is_data M S (position_in tab f) ≡ true) → is_data M S (first_free img) ≡ true
      → Each (GoodStore G N) (take_stores img tab M S f slot)
  unfolding take_stores
  good-take slot s d e = (
    good-off,
    (
      good-store G N (index S (first_free img)) 0 256 _ (run-fresh G (new_size img tab M S f slot)) (omega arith) (data-inside (first_free img) e),
      each_append (GoodStore G N) (linked (eqb (position_in tab f) 0) (index S (position_in tab f)) (first_free img)) _
          (good-linked G N (eqb (position_in tab f) 0) (index S (position_in tab f)) (first_free img) (λ n. data-inside (position_in tab f) (d n)))
          (good-store G N (slot / 256) (slot % 256 + 13) 6 _ (run-six G (new_start img tab M S f slot) (first_free img) (new_size img tab M S f slot)) (omega (arith, s)) (slot-inside slot s), tt),
    ),
  )

  good-taken : (new start size : ℕ) → Each (GoodPut G) (take_puts new start size)
  unfolding take_puts
  good-taken new start size = (
    good-put G start_field 6 _ (run-six G start new size) (omega arith),
    (
      good-put G buffer_field 256 _ (run-fresh G size) (omega arith),
      (
        good-put G position_field 2 _ (run-two G new) (omega arith),
        (
          good-put G record_field 2 _ (run-two G size) (omega arith),
          (good-put G index_field 1 _ (run-one G 4 (λ g. omega arith)) (omega arith), tt),
        ),
      ),
    ),
  )

  take-fair : (slot : ℕ) → IsSlot M S slot → F in_writing 4 (take_for img tab M S f slot)
  unfolding take_for member
  take-fair slot s =
      pick-cases (F in_writing 4) (pick (eqb (position_in tab f) 0) true (is_data M S (position_in tab f))) _ _
      (λ d. free-fair in_writing 4 _ refl refl
      (λ e. pick_all (F in_writing 4) (eqb (size_in tab f) 65535) _ _ refl
      (fair-done G N in_writing 4 _ _ (few-take img tab f b z slot)
      (good-take slot s (second _ _ d) e)
      (good-taken _ _ _))))
      (λ d. refl)

  sector-fair : F in_writing 4 (take_sector img tab M S f)
  unfolding take_sector member
  sector-fair =
      on_slot-all (F in_writing 4) (slot_in img tab M S f) 5 5 _ refl refl (λ slot e. take-fair slot (one-is slot (placed-is img M S _ slot e).0))

  good-sent : (i : ℕ) → (G → i < 256) → Each (GoodPut G) (sent i b)
  unfolding sent
  good-sent i h = (
    (λ g. let l = h g in (omega (arith, length-one b), small_one b g.byte)),
    (good-put G index_field 1 _ (run-one G _ (λ g. omega arith)) (omega arith), tt),
  )

  -- a sector is stored: bytes 4-255 of it
  good-buffer : (a : ℕ) (vs : List ℕ) → is_data M S a ≡ true → Run G 252 vs → Each (GoodStore G N) (store (index S a) 4 vs ∷ [])
  good-buffer a vs d r = (good-store G N (index S a) 4 252 vs r (omega arith) (data-inside a d), tt)

  fill-fair : F (10 ∷ []) 1 (fill tab M S f b)
  unfolding fill member
  fill-fair =
      pick-cases (F (10 ∷ []) 1) (is_data M S (position_in tab f)) _ _
      (λ d. fair-done G N (10 ∷ []) 1 _ _ (omega arith)
      (good-buffer (position_in tab f) _ d (run-append G 251 1 _ _ (run-part G tab _ 251 (λ g. g.table)) (run-one G b (λ g. g.byte))))
      (good-sent 255 (λ g. omega arith)))
      (λ d. refl)

  pub writing-fair : F in_writing 4 (writing img tab M S f b)
  unfolding writing member
  writing-fair =
      pick_all (F in_writing 4) (eqb (index_in tab f) 0) _ _
      (fair-then G N in_writing 4 (take_sector img tab M S f) (sent 4 b) sector-fair (good-sent 4 (λ g. omega arith)))
      (pick_all (F in_writing 4) (eqb (index_in tab f) 255) _ _
      (fair-more G N (10 ∷ []) in_writing 1 4 (fill tab M S f b) (refl, tt) (omega arith) fill-fair)
      (fair-still G N in_writing 4 _ (good-sent (index_in tab f) (λ g. g.table.at (f + index_field)))))

  -- ---- close

  good-shut : Each (GoodPut G) shut
  unfolding shut
  good-shut = (good-put G activity_field 1 _ (run-one G 0 (λ g. omega arith)) (omega arith), tt)

  good-mark : (slot : ℕ) → IsSlot M S slot → Each (GoodStore G N) (mark slot)
  unfolding mark
  good-mark slot s = (good-store G N (slot / 256) (slot % 256) 1 _ (run-one G 255 (λ g. omega arith)) (omega (arith, s)) (slot-inside slot s), tt)

  few-mark : (slot : ℕ) → length (mark slot) ≡ 1
  unfolding mark
  few-mark slot = refl

  pub close-fair : F in_close 1 (close img tab M S f)
  unfolding close close_writing member
  close-fair =
      pick_all (F in_close 1) (eqb (activity_in tab f) 2) _ _
      (pick_all (F in_close 1) (eqb (position_in tab f) 0) _ _
      (on_slot-all (F in_close 1) (slot_in img tab M S f) 5 5 _ refl refl
      (λ slot e. fair-done G N in_close 1 _ _ (omega (arith, few-mark slot)) (good-mark slot (one-is slot (placed-is img M S _ slot e).0)) good-shut))
      (pick_all (F in_close 1) (eqb (index_in tab f) 0) _ _ (fair-still G N in_close 1 _ good-shut)
      (pick-cases (F in_close 1) (is_data M S (position_in tab f)) _ _
      (λ d. fair-done G N in_close 1 _ _ (omega arith) (good-buffer (position_in tab f) _ d (run-part G tab _ 252 (λ g. g.table))) good-shut)
      (λ d. refl))))
      (fair-still G N in_close 1 _ good-shut)

  -- ---- open

  good-opened : (act slot : ℕ) (entry : List ℕ) → act < 256 → Run G 24 entry → Each (GoodPut G) (opened S act slot entry)
  unfolding opened
  good-opened act slot entry h r = (
    good-put G name_field 24 _ r (omega arith),
    (
      good-put G function_field 1 _ (run-one G 0 (λ g. omega arith)) (omega arith),
      (
        good-put G position_field 6 _ (run-zeros G 6) (omega arith),
        (
          good-put G activity_field 1 _ (run-one G act (λ g. h)) (omega arith),
          (
            good-put G place_field 3 _ (run-place G S slot) (omega arith),
            (good-put G compression_field 1 _ (run-one G 255 (λ g. omega arith)) (omega arith), tt),
          ),
        ),
      ),
    ),
  )

  run-slot : (slot : ℕ) → Run G 24 (part img slot 24)
  run-slot slot = run-part G img slot 24 (λ g. g.image)

  pub open-read-fair : F in_open_read 0 (open_read img tab M S f)
  unfolding open_read member
  open-read-fair =
      pick_all (F in_open_read 0) (legal tab (f + name_field)) _ _
      (on_slot-all (F in_open_read 0) (find img M S (name_in tab f)) 5 4 _ refl refl
      (λ slot e. pick_all (F in_open_read 0) (read_protected (attributes_at img slot)) _ _ refl
      (pick_all (F in_open_read 0) (in_use false tab (place_of S slot)) _ _ refl
      (fair-still G N in_open_read 0 _ (good-opened 1 slot _ (omega arith) (run-slot slot))))))
      refl

  run-entry : Run G 24 (new_entry tab f)
  unfolding new_entry
  run-entry =
      run-append G 11 13 _ _ (run-part G tab _ 11 (λ g. g.table))
      (run-append G 10 3 _ _ (run-zeros G 10) (run-part G tab _ 3 (λ g. g.table)))

  -- the last sector of the directory is one of it, or the first
  last-in : (ks : List ℕ) (k : ℕ) → InDirectory M S k → Each (InDirectory M S) ks → InDirectory M S (last_of ks k)
  last-in [] k h e = h
  last-in (j ∷ ks) k h e = last-in ks j e.0 e.1

  last-inside : 256 * last_sector img M S + 256 ≤ N
  last-inside =
      let s = z.shape.sectors in
      sector-inside img z (last_sector img M S)
      (last-in (directory img M S) first_of_directory (omega arith, omega (arith, s, sectors-many M S z.shape)) (directory-in img M S s)).1

  good-grow : is_data M S (first_free img) ≡ true → Each (GoodStore G N) (grow_stores img tab M S f)
  unfolding grow_stores
  good-grow e = (
    good-off,
    (
      good-store G N (index S (first_free img)) 0 256 _ (run-zeros G 256) (omega arith) (data-inside (first_free img) e),
      (
        good-store G N (last_sector img M S) 0 2 _ (run-two G (first_free img)) (omega arith) last-inside,
        (good-store G N (index S (first_free img)) 16 24 _ run-entry (omega arith) (data-inside (first_free img) e), tt),
      ),
    ),
  )

  few-grow : length (grow_stores img tab M S f) ≤ 4
  unfolding grow_stores
  few-grow = omega arith

  grow-fair : F in_open_write 4 (grow img tab M S f)
  unfolding grow member
  grow-fair =
      free-fair in_open_write 4 _ refl refl
      (λ e. pick_all (F in_open_write 4) (ltb (length (directory img M S)) (most_of_directory M S)) _ _
      (fair-done G N in_open_write 4 _ _ few-grow (good-grow e) (good-opened 2 (first_slot_of (index S (first_free img))) _ (omega arith) run-entry))
      refl)

  pub open-write-fair : F in_open_write 4 (open_write img tab M S f)
  unfolding open_write member
  open-write-fair =
      pick_all (F in_open_write 4) (legal tab (f + name_field)) _ _
      (on_none-all (F in_open_write 4) (find img M S (name_in tab f)) 5 3 _ refl refl
      (or_else-all (F in_open_write 4) (vacancy img M S) 5 _ _ refl (λ e. grow-fair)
      (λ slot e. let s = one-is slot (vacancy-is img M S slot e).0 in
      fair-done G N in_open_write 4 _ _ (omega arith)
      (good-store G N (slot / 256) (slot % 256) 24 _ run-entry (omega (arith, s)) (slot-inside slot s), tt)
      (good-opened 2 slot _ (omega arith) run-entry))))
      refl

  -- ---- rewind, open directory, next slot, read sector

  pub rewind-fair : F [] 0 rewind
  unfolding rewind
  rewind-fair =
      fair-still G N [] 0 _ (
        good-put G function_field 1 _ (run-one G 0 (λ g. omega arith)) (omega arith),
        (
          good-put G position_field 2 _ (run-two G 0) (omega arith),
          (good-put G index_field 1 _ (run-one G 0 (λ g. omega arith)) (omega arith), tt),
        ),
      )

  pub open-directory-fair : F [] 0 open_directory
  unfolding open_directory
  open-directory-fair =
      fair-still G N [] 0 _
      (good-put G activity_field 1 _ (run-one G 16 (λ g. omega arith)) (omega arith), (good-put G place_field 3 _ (run-zeros G 3) (omega arith), tt))

  shown-fair : (slot : ℕ) → F in_next_slot 0 (shown img S slot)
  unfolding shown
  shown-fair slot =
      fair-still G N in_next_slot 0 _
      (good-put G place_field 3 _ (run-place G S slot) (omega arith), (good-put G name_field 24 _ (run-slot slot) (omega arith), tt))

  pub next-slot-fair : F in_next_slot 0 (next_slot img tab M S f)
  unfolding next_slot member
  next-slot-fair =
      pick_all (F in_next_slot 0) (same (place_in tab f) (zeros 3)) _ _
      (pick_all (F in_next_slot 0) (directory_right img M S) _ _ (shown-fair (first_slot_of first_of_directory)) refl)
      (on_slot-all (F in_next_slot 0) (slot_in img tab M S f) 5 5 _ refl refl
      (λ slot e. on_slot-all (F in_next_slot 0) (slot_behind slot (slots img M S)) 5 8 _ refl refl (λ next d. shown-fair next)))

  pub read-sector-fair : F in_read_sector 0 (read_sector img tab M S f)
  unfolding read_sector member
  read-sector-fair =
      pick_all (F in_read_sector 0) (is_sector M S (position_in tab f)) _ _
      (fair-still G N in_read_sector 0 _ (good-put G buffer_field 256 _ (run-part G img _ 256 (λ g. g.image)) (omega arith), tt))
      refl

  -- ---- put slot, write sector

  pub put-slot-fair : F in_put_slot 1 (put_slot img tab M S f)
  unfolding put_slot member
  put-slot-fair =
      on_slot-all (F in_put_slot 1) (slot_in img tab M S f) 5 5 _ refl refl
      (λ slot e. let s = one-is slot (placed-is img M S _ slot e).0 in
      fair-done G N in_put_slot 1 _ _ (omega arith)
      (good-store G N (slot / 256) (slot % 256) 24 _ (run-part G tab _ 24 (λ g. g.table)) (omega (arith, s)) (slot-inside slot s), tt)
      tt)

  pub write-sector-fair : F in_write_sector 1 (write_sector img tab M S f)
  unfolding write_sector member
  write-sector-fair =
      pick-cases (F in_write_sector 1) (is_sector M S (position_in tab f)) _ _
      (λ h. fair-done G N in_write_sector 1 _ _ (omega arith)
      (good-store G N (index S (position_in tab f)) 0 256 _ (run-part G tab _ 256 (λ g. g.table)) (omega arith) (there-inside (position_in tab f) h), tt)
      tt)
      (λ h. refl)

  -- ---- delete, rename

  good-gone : (slot : ℕ) → Each (GoodPut G) (gone img slot)
  unfolding gone
  good-gone slot =
      (good-put G name_field 24 _ (run-append G 1 23 _ _ (run-one G 255 (λ g. omega arith)) (run-part G img _ 23 (λ g. g.image))) (omega arith), tt)

  good-hang : (slot count first last start end size : ℕ) → IsSlot M S slot → (eqb count 0 ≡ false → is_data M S last ≡ true)
      → Each (GoodStore G N) (hang_stores S slot count first last start end size)
  unfolding hang_stores
  good-hang slot count first last start end size s d =
      each_append (GoodStore G N) (linked (eqb count 0) (index S last) start) _
      (good-linked G N (eqb count 0) (index S last) start (λ n. data-inside last (d n)))
      (good-store G N info_sector 29 6 _ (run-six G _ _ _) (omega arith) info-inside, good-mark slot s)

  few-hang : (slot count first last start end size : ℕ) → length (hang_stores S slot count first last start end size) ≤ 3
  unfolding hang_stores
  few-hang slot count first last start end size =
      simp length-append (omega (arith, length-linked (eqb count 0) (index S last) start, few-mark slot))

  remove-fair : (slot : ℕ) → IsSlot M S slot → F in_delete 3 (remove img M S slot)
  unfolding remove member
  remove-fair slot s =
      pick_all (F in_delete 3) (eqb (size_at img slot) 0) _ _
      (fair-done G N in_delete 3 _ _ (omega (arith, few-mark slot)) (good-mark slot s) (good-gone slot))
      (pick_all (F in_delete 3) (is_data M S (start_at img slot)) _ _
      (pick_all (F in_delete 3) (is_data M S (end_at img slot)) _ _
      (pick-cases (F in_delete 3) (pick (eqb (free_count img) 0) true (is_data M S (last_free img))) _ _
      (λ d. pick_all (F in_delete 3) (ltb 65535 (free_count img + size_at img slot)) _ _ refl
      (fair-done G N in_delete 3 _ _ (few-hang slot _ _ _ _ _ _) (good-hang slot _ _ _ _ _ _ s (second _ _ d)) (good-gone slot)))
      (λ d. refl))
      refl)
      refl)

  pub delete-fair : F in_delete 3 (delete img tab M S f)
  unfolding delete member
  delete-fair =
      pick_all (F in_delete 3) (legal tab (f + name_field)) _ _
      (on_slot-all (F in_delete 3) (find img M S (name_in tab f)) 5 4 _ refl refl
      (λ slot e. pick_all (F in_delete 3) (in_use true tab (place_of S slot)) _ _ refl
      (pick_all (F in_delete 3) (delete_protected (attributes_at img slot)) _ _ refl
      (pick_all (F in_delete 3) (write_protected (attributes_at img slot)) _ _ refl
      (remove-fair slot (one-is slot (find-is img M S _ slot e).0))))))
      refl

  pub rename-fair : F in_rename 1 (rename img tab M S f)
  unfolding rename member
  rename-fair =
      pick_all (F in_rename 1) (legal tab (f + name_field)) _ _
      (pick_all (F in_rename 1) (legal tab (f + new_name_field)) _ _
      (on_slot-all (F in_rename 1) (find img M S (name_in tab f)) 5 4 _ refl refl
      (λ slot e. let s = one-is slot (find-is img M S _ slot e).0 in
      let r = run-part G tab (f + new_name_field) 11 (λ g. g.table) in
      pick_all (F in_rename 1) (in_use true tab (place_of S slot)) _ _ refl
      (pick_all (F in_rename 1) (write_protected (attributes_at img slot)) _ _ refl
      (on_none-all (F in_rename 1) (find img M S (new_name_in tab f)) 5 3 _ refl refl
      (fair-done G N in_rename 1 _ _ (omega arith)
      (good-store G N (slot / 256) (slot % 256) 11 _ r (omega (arith, s)) (slot-inside slot s), tt)
      (good-put G name_field 11 _ r (omega arith), tt))))))
      refl)
      refl

  -- ---- any function

  pub transfer-fair : F (pick (eqb (activity_in tab f) 1) in_reading in_writing) (pick (eqb (activity_in tab f) 1) 0 4) (transfer img tab M S f b)
  unfolding transfer
  transfer-fair = pick-each F (eqb (activity_in tab f) 1) _ _ _ _ _ _ reading-fair writing-fair

  pub perform-fair : F (refusals (function_in tab f) (activity_in tab f)) (most_stores (function_in tab f) (activity_in tab f)) (perform img tab M S f b)
  unfolding perform refusals most_stores
  perform-fair =
      pick-each F (eqb (function_in tab f) 0) _ _ _ _ _ _ transfer-fair
      (pick-each F (eqb (function_in tab f) 1) _ _ _ _ _ _ open-read-fair
      (pick-each F (eqb (function_in tab f) 2) _ _ _ _ _ _ open-write-fair
      (pick-each F (eqb (function_in tab f) 4) _ _ _ _ _ _ close-fair
      (pick-each F (eqb (function_in tab f) 5) _ _ _ _ _ _ rewind-fair
      (pick-each F (eqb (function_in tab f) 6) _ _ _ _ _ _ open-directory-fair
      (pick-each F (eqb (function_in tab f) 7) _ _ _ _ _ _ next-slot-fair
      (pick-each F (eqb (function_in tab f) 8) _ _ _ _ _ _ put-slot-fair
      (pick-each F (eqb (function_in tab f) 9) _ _ _ _ _ _ read-sector-fair
      (pick-each F (eqb (function_in tab f) 10) _ _ _ _ _ _ write-sector-fair
      (pick-each F (eqb (function_in tab f) 12) _ _ _ _ _ _ delete-fair rename-fair))))))))))

-- what a call may come to: any image, any table
module _ (img tab : List ℕ) (f b : ℕ) where
  abbrev code : ℕ
  code = function_in tab f

  abbrev act : ℕ
  act = activity_in tab f

  abbrev A : Outcome → Type 0
  A o = Fair (Given img tab b) (length img) (asked_numbers img tab f b) (most_stores code act) o

  pub asked-fair : A (asked img tab f b)
  unfolding asked checked misfit member
  asked-fair =
      pick-cases A (shape_right img) _ _
      (λ z. pick_all A (served code) _ _
      (pick_all A (eqb (drive_in tab f) 0) _ _
      (pick_all A (fits code act) _ _
      (fair-more (Given img tab b) (length img) (refusals code act) (asked_numbers img tab f b) (most_stores code act) (most_stores code act)
      (perform img tab (last_track img) (per_track img) f b) (each-own in_checks (refusals code act)) (omega arith)
      (perform-fair img tab f b (shape_is img z)))
      (pick_all (λ (e : ℕ). member e (asked_numbers img tab f b) ≡ true) (eqb code 4) _ _
      (pick_all (λ (e : ℕ). member e (asked_numbers img tab f b) ≡ true) (eqb act 0) _ _ refl refl)
      refl))
      refl)
      refl)
      (λ z. refl)
