-- Parts of the rules of functions, which functions of the code have for their promises.
use Rattle.std.specs.Prelude.{true, false, List, [], ◌∷◌, ℕ, ◌/◌, ◌%◌, ltb, Result, Ok, Err}
use Rattle.rules.specs.Bytes.{pick, part, one, two, zeros}
use Rattle.rules.specs.Stores.{Store, store, Put, put}
use Rattle.rules.specs.Image.{index}
use Rattle.rules.specs.Directory.{most_of_directory, directory_right, first_of_directory, first_slot_of, find, vacancy, place_of, attributes_at}
use Rattle.rules.specs.declared.refusal.Refusal.{Refusal}
use Rattle.rules.specs.declared.refusal.Refusal.TheVariants.{BadWrite}
use Rattle.rules.specs.Outcome.{Outcome, done, unless, when, on_slot, on_none, or_else}
use Rattle.rules.specs.Block.{function_field, activity_field, name_field, position_field, place_field, compression_field, new_name_in, in_use}
use Rattle.rules.specs.Transfer.{off_free, slot_in}
use Rattle.rules.specs.Files.{opened, new_entry, grow, shown, write_protected, delete_protected, read_protected, remove}
use Rattle.laws.specs.Visits.{step_slot}
use Rattle.taking.specs.Take.{free_sector}

-- ---- 1 open read, 2 open write

-- what opening stores behind the entry, byte 1 too
unfoldable pub opening : ℕ → ℕ → ℕ → List Put
opening S act slot =
    put function_field (one 0)
    ∷ put position_field (zeros 6)
    ∷ put activity_field (one act)
    ∷ put place_field (place_of S slot)
    ∷ put compression_field (one 255)
    ∷ put 1 (one 0)
    ∷ []

-- open read, once the slot is found
unfoldable pub open_read_at : List ℕ → List ℕ → ℕ → ℕ → Outcome
open_read_at img tab S slot =
    when (read_protected (attributes_at img slot)) 17
    (when (in_use false tab (place_of S slot)) 2
    (done 0 [] (opened S 1 slot (part img slot 24))))

-- open write, once a slot is chosen
unfoldable pub open_write_at : List ℕ → ℕ → ℕ → ℕ → Outcome
open_write_at tab S f slot = done 0 (store (slot / 256) (slot % 256) (new_entry tab f) ∷ []) (opened S 2 slot (new_entry tab f))

-- open write, once the name is known to be new
unfoldable pub open_write_new : List ℕ → List ℕ → ℕ → ℕ → ℕ → Outcome
open_write_new img tab M S f = or_else (vacancy img M S) 5 (grow img tab M S f) (open_write_at tab S f)

-- what is done with a sector that is given; a refusal stands
abbrev pub if_ok : Result ℕ Refusal → (ℕ → Result ℕ Refusal) → Result ℕ Refusal
if_ok (Ok a) next = next a
if_ok (Err e) next = Err e

-- the free sector by which a directory of n sectors grows, or why it does not
unfoldable pub growth : List ℕ → ℕ → ℕ → ℕ → Result ℕ Refusal
growth img M S n = if_ok (free_sector img M S) (λ new. pick (ltb n (most_of_directory M S)) (Ok new) (Err BadWrite))

-- what a directory that grows stores before the new file's slot: the sector taken is at the address new, its last one has the index end
unfoldable pub add_stores : List ℕ → ℕ → ℕ → ℕ → List Store
add_stores img S end new = off_free img S ∷ store (index S new) 0 (zeros 256) ∷ store end 0 (two new) ∷ []

-- ---- 7 next slot

unfoldable pub first_slot : List ℕ → ℕ → ℕ → Outcome
first_slot img M S = unless (directory_right img M S) 5 (shown img S (first_slot_of first_of_directory))

-- once the slot of the block's place is known
unfoldable pub slot_after : List ℕ → ℕ → ℕ → ℕ → Outcome
slot_after img M S slot = on_slot (step_slot img M S slot) 5 8 (shown img S)

unfoldable pub further_slot : List ℕ → List ℕ → ℕ → ℕ → ℕ → Outcome
further_slot img tab M S f = on_slot (slot_in img tab M S f) 5 5 (slot_after img M S)

-- ---- 12 delete

-- delete, once the slot is found
unfoldable pub delete_at : List ℕ → List ℕ → ℕ → ℕ → ℕ → Outcome
delete_at img tab M S slot =
    when (in_use true tab (place_of S slot)) 2
    (when (delete_protected (attributes_at img slot)) 12
    (when (write_protected (attributes_at img slot)) 11
    (remove img M S slot)))

-- ---- 13 rename

-- "New name to slot and FCB."
unfoldable pub renamed : List ℕ → ℕ → ℕ → Outcome
renamed tab f slot = done 0 (store (slot / 256) (slot % 256) (new_name_in tab f) ∷ []) (put name_field (new_name_in tab f) ∷ [])

-- rename, once the slot is found
unfoldable pub rename_at : List ℕ → List ℕ → ℕ → ℕ → ℕ → ℕ → Outcome
rename_at img tab M S f slot =
    when (in_use true tab (place_of S slot)) 2
    (when (write_protected (attributes_at img slot)) 11
    (on_none (find img M S (new_name_in tab f)) 5 3
    (renamed tab f slot)))
