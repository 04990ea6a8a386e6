-- 01, "The ten functions": open, rewind, the directory's functions, read sector, delete, rename; 02, "Raw writing": put slot, write sector. The
-- block begins at f.
use Rattle.std.specs.Prelude.{Bool, true, false, List, [], ◌∷◌, ◌++◌, ℕ, ◌+◌, ◌*◌, ◌/◌, ◌%◌, length, eqb, ltb}
use Rattle.rules.specs.Bytes.{pick, ◌or◌, part, one, two, six, zeros, same}
use Rattle.rules.specs.Stores.{Store, store, Put, put}
use Rattle.rules.specs.Image.{index, is_sector, is_data, info_sector, info_first, first_free, last_free, free_count}
use Rattle.rules.specs.Names.{legal}
use Rattle.rules.specs.Directory.{first_of_directory, most_of_directory, first_displacement, first_slot_of, place_of, slot_behind, directory_right, directory, last_sector, slots, find, vacancy, attributes_at, start_at, end_at, size_at}
use Rattle.rules.specs.Outcome.{Outcome, done, unless, when, on_slot, on_none, or_else}
use Rattle.rules.specs.Block.{function_field, activity_field, name_field, position_field, index_field, place_field, new_name_field, compression_field, buffer_field, name_in, date_in, position_in, place_in, new_name_in, in_use}
use Rattle.rules.specs.Transfer.{on_free, off_free, slot_in, linked, mark}

-- ---- what a slot's attributes forbid

-- is this one, a power of two, among them?
unfoldable pub has_attribute : ℕ → ℕ → Bool
has_attribute wanted attributes = eqb (attributes / wanted % 2) 1

-- "15 attributes (128 write protect, 64 delete protect)"
abbrev pub write_protected : ℕ → Bool
write_protected attributes = has_attribute 128 attributes

abbrev pub delete_protected : ℕ → Bool
delete_protected attributes = has_attribute 64 attributes

-- 02, "Sites want attribute 32 to stop reading."
abbrev pub read_protected : ℕ → Bool
read_protected attributes = has_attribute 32 attributes

-- ---- what the calls put, store and show

-- "Both then copy the slot to 4-27, zero 0 and 30-35, set 2, 47-49, and 59 to 255."
unfoldable pub opened : ℕ → ℕ → ℕ → List ℕ → List Put
opened S act slot entry =
    put name_field entry
    ∷ put function_field (one 0)
    ∷ put position_field (zeros 6)
    ∷ put activity_field (one act)
    ∷ put place_field (place_of S slot)
    ∷ put compression_field (one 255)
    ∷ []

-- "gets name and date, all else 0"
unfoldable pub new_entry : List ℕ → ℕ → List ℕ
new_entry tab f = name_in tab f ++ (zeros 10 ++ date_in tab f)

-- "5 rewind: .. zeroes 0, 30-31 and 34."
unfoldable pub rewind : Outcome
rewind = done 0 [] (put function_field (one 0) ∷ put position_field (two 0) ∷ put index_field (one 0) ∷ [])

-- "6 open directory: .. activity 16, 47-49 zero."
unfoldable pub open_directory : Outcome
open_directory = done 0 [] (put activity_field (one 16) ∷ put place_field (zeros 3) ∷ [])

-- "Slot to 4-27.", and the place moves to it
unfoldable pub shown : List ℕ → ℕ → ℕ → Outcome
shown img S slot = done 0 [] (put place_field (place_of S slot) ∷ put name_field (part img slot 24) ∷ [])

-- "last free's link, or first free if the count is 0, becomes the start, last free the end, and the size is added to the count.
-- The slot's first byte becomes 255"
unfoldable pub hang_stores : ℕ → ℕ → ℕ → ℕ → ℕ → ℕ → ℕ → ℕ → List Store
hang_stores S slot count first last start end size =
    linked (eqb count 0) (index S last) start
    ++ (store info_sector info_first (six (pick (eqb count 0) start first) end (count + size)) ∷ mark slot)

-- "slot to 4-27": the slot as it is marked
unfoldable pub gone : List ℕ → ℕ → List Put
gone img slot = put name_field (one 255 ++ part img (slot + 1) 23) ∷ []

-- "size 0 only marks. Else start and end, and last free if the count isn't 0, must be data sectors and the summed count at most 65,535 (9)"
unfoldable pub remove : List ℕ → ℕ → ℕ → ℕ → Outcome
remove img M S slot =
    pick (eqb (size_at img slot) 0) (done 0 (mark slot) (gone img slot))
    (unless (is_data M S (start_at img slot)) 9
    (unless (is_data M S (end_at img slot)) 9
    (unless (eqb (free_count img) 0 or is_data M S (last_free img)) 9
    (when (ltb 65535 (free_count img + size_at img slot)) 9
    (done 0
    (hang_stores S slot (free_count img) (first_free img) (last_free img) (start_at img slot) (end_at img slot) (size_at img slot))
    (gone img slot))))))

-- ---- THE CALLS of the block that begins at f, on a diskette of M and S; rewind (5) and open directory (6) need neither
module _ (img tab : List ℕ) (M S f : ℕ) where
  -- what the block says: name, new name, place, position; a new file's entry; the sector that is first free
  abbrev name : List ℕ
  name = name_in tab f

  abbrev new_name : List ℕ
  new_name = new_name_in tab f

  abbrev place : List ℕ
  place = place_in tab f

  abbrev position : ℕ
  position = position_in tab f

  abbrev new : List ℕ
  new = new_entry tab f

  abbrev taken : ℕ
  taken = index S (first_free img)

  -- "1 open read: activity 0 or 16; 21, 5, 4, 2 (an FCB of activity 2 has that place)." 02, "Open for read gives 17 for such a file, after 4 and
  -- before 2."
  unfoldable pub open_read : Outcome
  open_read =
      unless (legal tab (f + name_field)) 21
      (on_slot (find img M S name) 5 4 λ slot.
      when (read_protected (attributes_at img slot)) 17
      (when (in_use false tab (place_of S slot)) 2
      (done 0 [] (opened S 1 slot (part img slot 24)))))

  -- 02, "takes the first free sector, clears it and links it behind the last directory sector", and the sector's first slot is the new file's; the
  -- stores in this order
  unfoldable pub grow_stores : List Store
  grow_stores =
      off_free img S
      ∷ store taken 0 (zeros 256)
      ∷ store (last_sector img M S) 0 (two (first_free img))
      ∷ store taken first_displacement new
      ∷ []

  -- "if the count is 0 it answers 7, then 10 if that sector is no data sector or the chain is at its longest"
  unfoldable pub grow : Outcome
  grow =
      on_free img M S
      (unless (ltb (length (directory img M S)) (most_of_directory M S)) 10
      (done 0 grow_stores (opened S 2 (first_slot_of taken) new)))

  -- "2 open write: same activity; 21, 5, 3 ..; the first deleted or never-used slot in order gets name and date"; 02, "When no slot is left", the
  -- directory grows
  unfoldable pub open_write : Outcome
  open_write =
      unless (legal tab (f + name_field)) 21
      (on_none (find img M S name) 5 3
      (or_else (vacancy img M S) 5 grow λ slot.
      done 0 (store (slot / 256) (slot % 256) new ∷ []) (opened S 2 slot new)))

  -- "7 next slot: .. place 0,0,0 goes to the first slot; after the last, 8 and no move; 5 before 8."
  unfoldable pub next_slot : Outcome
  next_slot =
      pick (same place (zeros 3))
      (unless (directory_right img M S) 5 (shown img S (first_slot_of first_of_directory)))
      (on_slot (slot_in img tab M S f) 5 5 λ slot.
      on_slot (slot_behind slot (slots img M S)) 5 8 λ next.
      shown img S next)

  -- "9 read sector: .. any existing sector at 30-31 to the buffer, else 9."
  unfoldable pub read_sector : Outcome
  read_sector =
      unless (is_sector M S position) 9
      (done 0 [] (put buffer_field (part img (256 * index S position) 256) ∷ []))

  -- 02, "functions 8 (activity 16; 5)": place (5), then FCB bytes 4-27 to the slot. Place 0,0,0 is no slot's
  unfoldable pub put_slot : Outcome
  put_slot =
      on_slot (slot_in img tab M S f) 5 5 λ slot.
      done 0 (store (slot / 256) (slot % 256) (part tab (f + name_field) 24) ∷ []) []

  -- 02, "10 (activity 0 or 16; 10 if no such sector)": the buffer to any existing sector at 30-31
  unfoldable pub write_sector : Outcome
  write_sector =
      unless (is_sector M S position) 10
      (done 0 (store (index S position) 0 (part tab (f + buffer_field) 256) ∷ []) [])

  -- "12 delete: activity 0 or 16; 21, 5, 4, 2 (activity 1 or 2), 12, 11."
  unfoldable pub delete : Outcome
  delete =
      unless (legal tab (f + name_field)) 21
      (on_slot (find img M S name) 5 4 λ slot.
      when (in_use true tab (place_of S slot)) 2
      (when (delete_protected (attributes_at img slot)) 12
      (when (write_protected (attributes_at img slot)) 11
      (remove img M S slot))))

  -- "13 rename: activity 0 or 16; 21 for either name, 5, 4, 2 (activity 1 or 2), 11, 3 (its own name too). New name to slot and FCB."
  unfoldable pub rename : Outcome
  rename =
      unless (legal tab (f + name_field)) 21
      (unless (legal tab (f + new_name_field)) 21
      (on_slot (find img M S name) 5 4 λ slot.
      when (in_use true tab (place_of S slot)) 2
      (when (write_protected (attributes_at img slot)) 11
      (on_none (find img M S new_name) 5 3
      (done 0 (store (slot / 256) (slot % 256) new_name ∷ []) (put name_field new_name ∷ []))))))
