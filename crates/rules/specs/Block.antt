-- 01, "File control block": its fields, the table, blocks in use; the entries preset and default extension.
use Rattle.std.specs.Prelude.{Bool, false, List, [], ◌∷◌, ℕ, zero, suc, ◌+◌, ◌*◌, length, get_or, eqb, ltb}
use Rattle.rules.specs.Bytes.{pick, ◌and◌, ◌or◌, within, byte_at, word_at, part, one, same}
use Rattle.rules.specs.Stores.{put}
use Rattle.rules.specs.Outcome.{Effect, effect}

-- "a table of eight file control blocks (FCBs) of 320 bytes, 2,560 in all"
abbrev pub blocks : ℕ
blocks = 8

abbrev pub block_length : ℕ
block_length = 320

-- where block n begins
abbrev pub block_at : ℕ → ℕ
block_at n = block_length * n

-- "0 function"
abbrev pub function_field : ℕ
function_field = 0

-- "2 activity (0 closed, 1 read, 2 write, 16 directory, house)"
abbrev pub activity_field : ℕ
activity_field = 2

-- "3 drive"
abbrev pub drive_field : ℕ
drive_field = 3

-- "4-11 name; 12-14 extension"
abbrev pub name_field : ℕ
name_field = 4

-- "12-14 extension"
abbrev pub extension_field : ℕ
extension_field = 12

-- "17-18 start; 19-20 end; 21-22 size in sectors"
abbrev pub start_field : ℕ
start_field = 17

-- "21-22 size in sectors"
abbrev pub size_field : ℕ
size_field = 21

-- "25-27 date"
abbrev pub date_field : ℕ
date_field = 25

-- "30-31 position"
abbrev pub position_field : ℕ
position_field = 30

-- "32-33 record number"
abbrev pub record_field : ℕ
record_field = 32

-- "34 index"
abbrev pub index_field : ℕ
index_field = 34

-- "47-49 directory place (track, sector, displacement)"
abbrev pub place_field : ℕ
place_field = 47

-- "53-63 new name"
abbrev pub new_name_field : ℕ
new_name_field = 53

-- "59 compression flag"
abbrev pub compression_field : ℕ
compression_field = 59

-- "64-319 buffer"
abbrev pub buffer_field : ℕ
buffer_field = 64

-- the fields of the block that begins at f
abbrev pub function_in : List ℕ → ℕ → ℕ
function_in tab f = byte_at tab (f + function_field)

abbrev pub activity_in : List ℕ → ℕ → ℕ
activity_in tab f = byte_at tab (f + activity_field)

abbrev pub drive_in : List ℕ → ℕ → ℕ
drive_in tab f = byte_at tab (f + drive_field)

abbrev pub name_in : List ℕ → ℕ → List ℕ
name_in tab f = part tab (f + name_field) 11

abbrev pub start_in : List ℕ → ℕ → ℕ
start_in tab f = word_at tab (f + start_field)

abbrev pub size_in : List ℕ → ℕ → ℕ
size_in tab f = word_at tab (f + size_field)

abbrev pub date_in : List ℕ → ℕ → List ℕ
date_in tab f = part tab (f + date_field) 3

abbrev pub position_in : List ℕ → ℕ → ℕ
position_in tab f = word_at tab (f + position_field)

abbrev pub index_in : List ℕ → ℕ → ℕ
index_in tab f = byte_at tab (f + index_field)

abbrev pub place_in : List ℕ → ℕ → List ℕ
place_in tab f = part tab (f + place_field) 3

abbrev pub new_name_in : List ℕ → ℕ → List ℕ
new_name_in tab f = part tab (f + new_name_field) 11

-- "activity is 0 or 16"
unfoldable pub idle : ℕ → Bool
idle act = eqb act 0 or eqb act 16

-- does a block of this activity count as using its place? One that writes does; one that reads only where readers count
unfoldable pub counts : Bool → ℕ → Bool
counts readers act = eqb act 2 or readers and eqb act 1

-- "2 (an FCB of activity 2 has that place)", "2 (activity 1 or 2)": block n has the place
unfoldable pub uses : Bool → List ℕ → List ℕ → ℕ → Bool
uses readers tab place n =
    counts readers (activity_in tab (block_at n)) and same (place_in tab (block_at n)) place

-- one of the first n blocks has it
unfoldable pub used_below : Bool → List ℕ → List ℕ → ℕ → Bool
used_below readers tab place zero = false
used_below readers tab place (suc n) = uses readers tab place n or used_below readers tab place n

unfoldable pub in_use : Bool → List ℕ → List ℕ → Bool
in_use readers tab place = used_below readers tab place blocks

-- "Both give 13 first for table or number": the table's length, the block's number. Nothing is stored then
abbrev pub on_table : List ℕ → ℕ → Effect → Effect
on_table tab n e =
    pick (eqb (length tab) (block_length * blocks))
    (pick (ltb n blocks) e (effect 13 0 [] []))
    (effect 13 0 [] [])

-- "3-14, 25-27, 30-31, 53-63"; 02, "preset taking 15-24 and 64-319 too"
unfoldable pub presettable : ℕ → Bool
presettable i =
    within 3 27 i or within 30 31 i or within 53 319 i

-- "Preset writes one byte: offset 0 always; .. if activity is 0 or 16. Otherwise 18, nothing changed."
unfoldable pub preset_in : List ℕ → ℕ → ℕ → ℕ → Effect
preset_in tab f i v =
    pick (eqb i 0) (effect 0 0 [] (put i (one v) ∷ []))
    (pick (presettable i)
    (pick (idle (activity_in tab f)) (effect 0 0 [] (put i (one v) ∷ [])) (effect 18 0 [] []))
    (effect 18 0 [] []))

unfoldable pub preset : List ℕ → ℕ → ℕ → ℕ → Effect
preset tab n i v = on_table tab n (preset_in tab (block_at n) i v)

-- "BIN TXT CMD BAS SYS BAK SCR DAT BAC DIR PRT OUT"
unfoldable pub extensions : List (List ℕ)
extensions =
    (66 ∷ 73 ∷ 78 ∷ [])
    ∷ (84 ∷ 88 ∷ 84 ∷ [])
    ∷ (67 ∷ 77 ∷ 68 ∷ [])
    ∷ (66 ∷ 65 ∷ 83 ∷ [])
    ∷ (83 ∷ 89 ∷ 83 ∷ [])
    ∷ (66 ∷ 65 ∷ 75 ∷ [])
    ∷ (83 ∷ 67 ∷ 82 ∷ [])
    ∷ (68 ∷ 65 ∷ 84 ∷ [])
    ∷ (66 ∷ 65 ∷ 67 ∷ [])
    ∷ (68 ∷ 73 ∷ 82 ∷ [])
    ∷ (80 ∷ 82 ∷ 84 ∷ [])
    ∷ (79 ∷ 85 ∷ 84 ∷ [])
    ∷ []

-- "if activity is 0 or 16, byte 12 is 0 and the code is 0..11, bytes 12-14 take the code's entry ..; otherwise nothing changes."
unfoldable pub extension_in : List ℕ → ℕ → ℕ → Effect
extension_in tab f code =
    pick (idle (activity_in tab f))
    (pick (eqb (byte_at tab (f + extension_field)) 0)
    (pick (ltb code 12) (effect 0 0 [] (put extension_field (get_or extensions code []) ∷ [])) (effect 0 0 [] []))
    (effect 0 0 [] []))
    (effect 0 0 [] [])

unfoldable pub extension : List ℕ → ℕ → ℕ → Effect
extension tab n code = on_table tab n (extension_in tab (block_at n) code)
