-- The ledger: what a history of calls knows of a diskette and of the eight blocks. It is read off the start once; then calls, as they were
-- made, change it. It never sees a later image or table: it says what they must be.
use Rattle.std.specs.Prelude.{Bool, true, false, List, [], ◌∷◌, ◌++◌, ℕ, zero, suc, ◌+◌, ◌-◌, ◌*◌, ◌/◌, ◌%◌, length, get_or, set, drop, eqb, ltb}
use Rattle.rules.specs.Bytes.{pick, ◌and◌, ◌or◌, byte_at, word_at, part, one, two, six, zeros, flat}
use Rattle.rules.specs.Stores.{Store, store, stored, Put, put, puts}
use Rattle.rules.specs.Outcome.{Effect, answer, on_block}
use Rattle.rules.specs.Image.{index, is_sector, info_sector, info_first, adr}
use Rattle.rules.specs.Names.{legal}
use Rattle.rules.specs.Directory.{first_slot_of, named, vacant, place_of, first, chain_record}
use Rattle.rules.specs.Block.{function_field, activity_field, drive_field, name_field, date_field, position_field, record_field, index_field, place_field, new_name_field, buffer_field, preset_in, extension_in}
use Rattle.rules.specs.Transfer.{take_puts, sent, shut}
use Rattle.rules.specs.Files.{opened, write_protected, delete_protected, read_protected}
use Rattle.rules.specs.Call.{served, fits, misfit}
use Rattle.chains.specs.Chain.{set_last}

-- ---- calls, as they are made: a preset (block, offset, value), a default extension (block, code), a call (block, byte sent)

pub data Call : Type 0 where
  setting : ℕ → ℕ → ℕ → Call
  extending : ℕ → ℕ → Call
  asking : ℕ → ℕ → Call

abbrev pub block_of : Call → ℕ
block_of (setting n i v) = n
block_of (extending n c) = n
block_of (asking n b) = n

-- 02, "Raw writing": functions 8 and 10 store what the caller has put into the block, whatever stands there
abbrev pub writes_raw : ℕ → Bool
writes_raw code = eqb code 8 or eqb code 10

-- ---- what the ledger knows

-- a sector is its index in the whole image, t·S + s - 1, and `adr S` is its address; index 0 stands for none, since no data sector has it, and
-- adr S 0 is 0,0.
-- A slot: where it begins in the image; its 24 bytes, which are the name (0-10), the attributes (11-12), start, end and size (13-18), the byte of
-- the sector map (19, byte 23 of a block), and what ends in the date (20-23); its file's sectors in order, and of each its record number (bytes 2-3)
-- and its data (bytes 4-255)
pub record File : Type 0 where
  pub at : ℕ
  pub name : List ℕ
  pub mode : List ℕ
  pub ends : List ℕ
  pub map : List ℕ
  pub date : List ℕ
  pub secs : List ℕ
  pub recs : List (List ℕ)
  pub body : List (List ℕ)

abbrev pub secs_of : File → List ℕ
secs_of f = f.secs

-- the 24 bytes
unfoldable pub entry_of : File → List ℕ
entry_of f = f.name ++ (f.mode ++ (f.ends ++ (f.map ++ f.date)))

abbrev pub no_file : File
no_file = record { at = 0; name = []; mode = []; ends = []; map = []; date = []; secs = []; recs = []; body = [] }

-- a slot that was never used, of zeros
abbrev pub unused_slot : ℕ → File
unused_slot o = record { at = o; name = zeros 11; mode = zeros 2; ends = zeros 6; map = zeros 1; date = zeros 4; secs = []; recs = []; body = [] }

-- what a block does: nothing; it lists the directory, so many slots shown; it reads slot s, j sectors loaded, at index i; it writes slot s, with
-- the bytes that its last sector has not got yet
pub data Block : Type 0 where
  closed : Block
  listing : ℕ → Block
  reading : ℕ → ℕ → ℕ → Block
  writing : ℕ → List ℕ → Block

-- the start's image, whose bytes stay where nothing below says otherwise; the free sectors in order, and of each its bytes 2-255; the directory's
-- sectors in order, and of each its bytes 2-15, before the slots; the slots in order; what the eight blocks do, and their 320 bytes: what callers
-- have put there and what accepted calls have left there
pub record Ledger : Type 0 where
  pub base : List ℕ
  pub free : List ℕ
  pub spare : List (List ℕ)
  pub dir : List ℕ
  pub heads : List (List ℕ)
  pub slots : List File
  pub blocks : List Block
  pub fcbs : List (List ℕ)

abbrev pub file : Ledger → ℕ → File
file a s = get_or a.slots s no_file

abbrev pub block : Ledger → ℕ → Block
block a n = get_or a.blocks n closed

abbrev pub fcb : Ledger → ℕ → List ℕ
fcb a n = get_or a.fcbs n []

-- ---- image and table, by the ledger

-- bytes 2-255 of a file's sectors: record number and data
unfoldable pub joined : List (List ℕ) → List (List ℕ) → List (List ℕ)
joined [] ds = []
joined (r ∷ rs) [] = []
joined (r ∷ rs) (d ∷ ds) = (r ++ d) ∷ joined rs ds

-- each sector of a chain: its link, to the sector behind it, then its bytes from 2 on
unfoldable pub chain_stores : ℕ → List ℕ → List (List ℕ) → List Store
chain_stores S [] vs = []
chain_stores S (k ∷ ks) [] = []
chain_stores S (k ∷ ks) (v ∷ vs) = store k 0 (two (adr S (first ks 0)) ++ v) ∷ chain_stores S ks vs

-- each slot, and the sectors of its file
unfoldable pub file_stores : ℕ → List File → List Store
file_stores S [] = []
file_stores S (f ∷ fs) =
    store (f.at / 256) (f.at % 256) (entry_of f) ∷ (chain_stores S f.secs (joined f.recs f.body) ++ file_stores S fs)

-- THE IMAGE: the start's, with the information record's 29-34, the free sectors, the directory's sectors, the slots and their files stored into it
unfoldable pub image_of : ℕ → Ledger → List ℕ
image_of S a =
    stored a.base
    (store info_sector info_first (chain_record S a.free)
    ∷ (chain_stores S a.free a.spare
    ++ (chain_stores S a.dir a.heads
    ++ file_stores S a.slots)))

-- THE TABLE: the blocks' bytes
abbrev pub table_of : Ledger → List ℕ
table_of a = flat (λ b. b) a.fcbs

-- ---- what a call asks for, by the bytes of its block, which begins at f of m: function code, drive, name, new name, date, position; and the byte sent
pub record Request : Type 0 where
  pub code : ℕ
  pub drive : ℕ
  pub name : List ℕ
  pub rename : List ℕ
  pub date : List ℕ
  pub position : ℕ
  pub byte : ℕ

abbrev pub request : List ℕ → ℕ → ℕ → Request
request m f b = record {
  code = byte_at m (f + function_field);
  drive = byte_at m (f + drive_field);
  name = part m (f + name_field) 11;
  rename = part m (f + new_name_field) 11;
  date = part m (f + date_field) 3;
  position = word_at m (f + position_field);
  byte = b;
}

-- what block n asks for, by the ledger
abbrev pub asks : Ledger → ℕ → ℕ → Request
asks a n b = request (fcb a n) 0 b

-- what a call comes to: refused with a number, or accepted with a byte, a new ledger, and what is put into the block
pub data Fate : Type 0 where
  denied : ℕ → Fate
  granted : ℕ → Ledger → List Put → Fate

-- ---- searches

pub data Sought : Type 0 where
  nowhere : Sought
  slot : ℕ → Sought

abbrev pub later : Sought → Sought
later nowhere = nowhere
later (slot s) = slot (suc s)

abbrev pub on_sought : {A : Type 0} → Sought → A → (ℕ → A) → A
on_sought nowhere e f = e
on_sought (slot s) e f = f s

-- the first slot whose name is one looked for
unfoldable pub seek : (List ℕ → Bool) → List File → Sought
seek wanted [] = nowhere
seek wanted (f ∷ fs) = pick (wanted f.name) (slot 0) (later (seek wanted fs))

-- the file of a name
abbrev pub file_named : List ℕ → List File → Sought
file_named nm fs = seek (λ x. named x nm 0) fs

-- a slot for a new file: one that is vacant; or else, if a sector is free, the one behind all slots
abbrev pub vacant_slot : List File → Sought
vacant_slot fs = seek (λ x. vacant x 0) fs

abbrev pub slot_for_new : Ledger → Sought
slot_for_new a = on_sought (vacant_slot a.slots) (pick (eqb (length a.free) 0) nowhere (slot (length a.slots))) (λ s. slot s)

-- ---- blocks in use

abbrev pub activity : Block → ℕ
activity closed = 0
activity (listing p) = 16
activity (reading s j i) = 1
activity (writing s ub) = 2

abbrev pub holds_open : Bool → ℕ → Block → Bool
holds_open readers s closed = false
holds_open readers s (listing p) = false
holds_open readers s (reading t j i) = readers and eqb t s
holds_open readers s (writing t ub) = eqb t s

-- one of the first n blocks writes the slot, or reads it where readers count
unfoldable pub busy : Bool → ℕ → List Block → ℕ → Bool
busy readers s bs zero = false
busy readers s bs (suc n) = holds_open readers s (get_or bs n closed) or busy readers s bs n

-- ---- changes

-- block n does b from now on
abbrev pub set_block : Ledger → ℕ → Block → Ledger
set_block a n b =
    record { base = a.base; free = a.free; spare = a.spare; dir = a.dir; heads = a.heads; slots = a.slots; blocks = set a.blocks n b; fcbs = a.fcbs }

-- and slot s becomes f
abbrev pub set_file : Ledger → ℕ → File → ℕ → Block → Ledger
set_file a s f n b =
    record { base = a.base; free = a.free; spare = a.spare; dir = a.dir; heads = a.heads; slots = set a.slots s f; blocks = set a.blocks n b; fcbs = a.fcbs }

-- and these sectors are free, with these bytes 2-255
abbrev pub set_free : Ledger → List ℕ → List (List ℕ) → ℕ → File → ℕ → Block → Ledger
set_free a ks vs s f n b =
    record { base = a.base; free = ks; spare = vs; dir = a.dir; heads = a.heads; slots = set a.slots s f; blocks = set a.blocks n b; fcbs = a.fcbs }

-- the directory gets one more sector, k, the first free one, of zeros: the first of its ten slots becomes f, the others were never used
unfoldable pub unused_slots : ℕ → ℕ → List File
unused_slots o zero = []
unused_slots o (suc n) = unused_slot o ∷ unused_slots (o + 24) n

abbrev pub add_sector : Ledger → ℕ → List ℕ → File → ℕ → Block → Ledger
add_sector a k fr f n b =
    record {
      base = a.base;
      free = fr;
      spare = drop 1 a.spare;
      dir = a.dir ++ k ∷ [];
      heads = a.heads ++ zeros 14 ∷ [];
      slots = a.slots ++ (f ∷ unused_slots (first_slot_of k + 24) 9);
      blocks = set a.blocks n b;
      fcbs = a.fcbs;
    }

-- bytes are put into block n
abbrev pub put_into : Ledger → ℕ → List Put → Ledger
put_into a n ps =
    record { base = a.base; free = a.free; spare = a.spare; dir = a.dir; heads = a.heads; slots = a.slots; blocks = a.blocks; fcbs = set a.fcbs n (puts (fcb a n) 0 ps) }

-- n bytes, the first from l, zeros after them
unfoldable pub pad_to : ℕ → List ℕ → List ℕ
pad_to zero l = []
pad_to (suc n) [] = 0 ∷ pad_to n []
pad_to (suc n) (x ∷ l) = x ∷ pad_to n l

-- its last sector gets the bytes d
abbrev pub with_last : File → List ℕ → File
with_last f d =
    record { at = f.at; name = f.name; mode = f.mode; ends = f.ends; map = f.map; date = f.date; secs = f.secs; recs = f.recs; body = set_last f.body d }

-- it gets one more sector, k, whose record number is the size, of zeros
abbrev pub with_new : ℕ → File → ℕ → File
with_new S f k =
    let size = length f.secs + 1 in
    record {
      at = f.at;
      name = f.name;
      mode = f.mode;
      ends = six (adr S (first (f.secs ++ k ∷ []) 0)) (adr S k) size;
      map = f.map;
      date = f.date;
      secs = f.secs ++ k ∷ [];
      recs = f.recs ++ two size ∷ [];
      body = f.body ++ zeros 252 ∷ [];
    }

-- its slot is marked deleted
abbrev pub with_mark : File → File
with_mark f =
    record { at = f.at; name = set f.name 0 255; mode = f.mode; ends = f.ends; map = f.map; date = f.date; secs = []; recs = []; body = [] }

abbrev pub with_name : File → List ℕ → File
with_name f nm =
    record { at = f.at; name = nm; mode = f.mode; ends = f.ends; map = f.map; date = f.date; secs = f.secs; recs = f.recs; body = f.body }

-- a new file in the slot that begins at o: name and date, all else 0
abbrev pub new_file : ℕ → List ℕ → List ℕ → File
new_file o nm date = record { at = o; name = nm; mode = zeros 2; ends = zeros 6; map = zeros 1; date = zeros 1 ++ date; secs = []; recs = []; body = [] }

-- ---- the functions, one test a line, in the papers' order

abbrev pub unless_a : Bool → ℕ → Fate → Fate
unless_a ok e next = pick ok next (denied e)

abbrev pub when_a : Bool → ℕ → Fate → Fate
when_a bad e next = pick bad (denied e) next

abbrev pub attributes : Ledger → ℕ → ℕ
attributes a s = byte_at (file a s).mode 0

-- what a load of sector j puts into the block: position, record number, buffer; the index is 4, and the byte that is read there moves it on
unfoldable pub loaded : ℕ → File → ℕ → List Put
loaded S f j =
    put position_field (two (adr S (get_or f.secs j 0)))
    ∷ put record_field (get_or f.recs j [])
    ∷ put buffer_field (two (adr S (get_or f.secs (suc j) 0)) ++ (get_or f.recs j [] ++ get_or f.body j []))
    ∷ put index_field (one 5)
    ∷ []

module _ (M S : ℕ) (a : Ledger) (n : ℕ) (q : Request) where
  -- 0: a sector is taken for the byte, if one is free
  abbrev pub taken : ℕ → List ℕ → Fate
  taken s [] = denied 7
  taken s (k ∷ fr) =
      granted 0 (set_free a fr (drop 1 a.spare) s (with_new S (file a s) k) n (writing s (q.byte ∷ [])))
      (take_puts (adr S k) (adr S (first ((file a s).secs ++ k ∷ []) 0)) (length (file a s).secs + 1) ++ sent 4 q.byte)

  abbrev pub transferred : Block → Fate
  transferred closed = denied 18
  transferred (listing p) = denied 18
  transferred (reading s j i) =
      pick (eqb i 0)
      (pick (ltb j (length (file a s).secs))
      (granted (get_or (get_or (file a s).body j []) 0 0) (set_block a n (reading s (suc j) 5)) (loaded S (file a s) j))
      (denied 8))
      (granted (get_or (get_or (file a s).body (j - 1) []) (i - 4) 0) (set_block a n (reading s j ((i + 1) % 256))) (put index_field (one ((i + 1) % 256)) ∷ []))
  transferred (writing s ub) =
      pick (eqb (length ub) 0) (taken s a.free)
      (pick (eqb (length ub) 251)
      (granted 0 (set_file a s (with_last (file a s) (pad_to 251 ub ++ q.byte ∷ [])) n (writing s [])) (sent 255 q.byte))
      (granted 0 (set_block a n (writing s (ub ++ q.byte ∷ []))) (sent (4 + length ub) q.byte)))

  -- 1
  unfoldable pub opened_to_read : Fate
  opened_to_read =
      unless_a (legal q.name 0) 21
      (on_sought (file_named q.name a.slots) (denied 4) (λ s.
      when_a (read_protected (attributes a s)) 17
      (when_a (busy false s a.blocks 8) 2
      (granted 0 (set_block a n (reading s 0 0)) (opened S 1 (file a s).at (entry_of (file a s)))))))

  -- 2: into a vacant slot; else a sector is taken for the directory, if one is free, and the file gets its first slot
  abbrev pub grown : List ℕ → Fate
  grown [] = denied 7
  grown (k ∷ fr) =
      let new = new_file (first_slot_of k) q.name q.date in
      granted 0 (add_sector a k fr new n (writing (length a.slots) [])) (opened S 2 new.at (entry_of new))

  unfoldable pub opened_to_write : Fate
  opened_to_write =
      unless_a (legal q.name 0) 21
      (on_sought (file_named q.name a.slots)
      (on_sought (vacant_slot a.slots) (grown a.free) (λ s.
      let new = new_file (file a s).at q.name q.date in
      granted 0 (set_file a s new n (writing s [])) (opened S 2 new.at (entry_of new))))
      (λ s. denied 3))

  -- 4
  abbrev pub shut_block : Block → Fate
  shut_block closed = denied 13
  shut_block (listing p) = granted 0 (set_block a n closed) shut
  shut_block (reading s j i) = granted 0 (set_block a n closed) shut
  shut_block (writing s ub) =
      pick (eqb (length (file a s).secs) 0) (granted 0 (set_file a s (with_mark (file a s)) n closed) shut)
      (pick (eqb (length ub) 0) (granted 0 (set_block a n closed) shut)
      (granted 0 (set_file a s (with_last (file a s) (pad_to 252 ub)) n closed) shut))

  -- 5
  abbrev pub rewound : Block → Fate
  rewound closed = denied 18
  rewound (listing p) = denied 18
  rewound (reading s j i) = granted 0 (set_block a n (reading s 0 0)) (put function_field (one 0) ∷ put position_field (two 0) ∷ put index_field (one 0) ∷ [])
  rewound (writing s ub) = denied 18

  -- 6
  abbrev pub directory_opened : Fate
  directory_opened = granted 0 (set_block a n (listing 0)) (put activity_field (one 16) ∷ put place_field (zeros 3) ∷ [])

  -- 7
  abbrev pub shown_next : Block → Fate
  shown_next closed = denied 18
  shown_next (listing p) =
      pick (ltb p (length a.slots))
      (granted 0 (set_block a n (listing (suc p))) (put place_field (place_of S (file a p).at) ∷ put name_field (entry_of (file a p)) ∷ []))
      (denied 8)
  shown_next (reading s j i) = denied 18
  shown_next (writing s ub) = denied 18

  -- 8, where a slot was shown. A raw write that is accepted ends what the history says, until another start: no statement uses the ledger after it
  abbrev pub slot_put : Block → Fate
  slot_put closed = denied 18
  slot_put (listing zero) = denied 5
  slot_put (listing (suc p)) = granted 0 a []
  slot_put (reading s j i) = denied 18
  slot_put (writing s ub) = denied 18

  -- 9
  unfoldable pub fetched : Fate
  fetched =
      unless_a (is_sector M S q.position) 9
      (granted 0 a (put buffer_field (part (image_of S a) (256 * index S q.position) 256) ∷ []))

  -- 10, as 8
  abbrev pub sector_put : Fate
  sector_put = unless_a (is_sector M S q.position) 10 (granted 0 a [])

  -- 12
  unfoldable pub deleted : Fate
  deleted =
      unless_a (legal q.name 0) 21
      (on_sought (file_named q.name a.slots) (denied 4) (λ s.
      when_a (busy true s a.blocks 8) 2
      (when_a (delete_protected (attributes a s)) 12
      (when_a (write_protected (attributes a s)) 11
      (granted 0 (set_free a (a.free ++ (file a s).secs) (a.spare ++ joined (file a s).recs (file a s).body) s (with_mark (file a s)) n (block a n))
      (put name_field (entry_of (with_mark (file a s))) ∷ []))))))

  -- 13
  unfoldable pub renamed : Fate
  renamed =
      unless_a (legal q.name 0) 21
      (unless_a (legal q.rename 0) 21
      (on_sought (file_named q.name a.slots) (denied 4) (λ s.
      when_a (busy true s a.blocks 8) 2
      (when_a (write_protected (attributes a s)) 11
      (on_sought (file_named q.rename a.slots)
      (granted 0 (set_file a s (with_name (file a s) q.rename) n (block a n)) (put name_field q.rename ∷ []))
      (λ t. denied 3))))))

  -- (9 is named first so that no other function computes the image)
  unfoldable pub performed : Fate
  performed =
      let sector = fetched in
      pick (eqb q.code 0) (transferred (block a n))
      (pick (eqb q.code 1) opened_to_read
      (pick (eqb q.code 2) opened_to_write
      (pick (eqb q.code 4) (shut_block (block a n))
      (pick (eqb q.code 5) (rewound (block a n))
      (pick (eqb q.code 6) directory_opened
      (pick (eqb q.code 7) (shown_next (block a n))
      (pick (eqb q.code 8) (slot_put (block a n))
      (pick (eqb q.code 9) sector
      (pick (eqb q.code 10) sector_put
      (pick (eqb q.code 12) deleted
      renamed))))))))))

  -- a call of block n that asks for q. 16 for the shape, 5 but in function 8, 9 in reading and deleting, and 10 but in function 10 cannot occur where
  -- the history leads: that they do not is part of what is demanded
  unfoldable pub called : Fate
  called =
      unless_a (served q.code) 1
      (unless_a (eqb q.drive 0) 16
      (unless_a (fits q.code (activity (block a n))) (misfit q.code (activity (block a n)))
      performed))

-- "Success answers 0 and stores 0 in byte 1"
abbrev pub ended : Fate → Fate
ended (denied e) = denied e
ended (granted b a ps) = granted b a (ps ++ put 1 (one 0) ∷ [])

-- a preset or a default extension: by its rule, on the block's own bytes
abbrev pub edits : Ledger → Effect → Fate
edits a e = pick (eqb (answer e) 0) (granted 0 a (on_block e)) (denied (answer e))

-- THE FATE of a call in a ledger
unfoldable pub fate : ℕ → ℕ → Ledger → Call → Fate
fate M S a (setting n i v) = unless_a (ltb n 8) 13 (edits a (preset_in (fcb a n) 0 i v))
fate M S a (extending n c) = unless_a (ltb n 8) 13 (edits a (extension_in (fcb a n) 0 c))
fate M S a (asking n b) = unless_a (ltb n 8) 13 (ended (called M S a n (asks a n b)))

-- its answer, the byte that it gives, the ledger after it where block n made it
abbrev pub reply : Fate → ℕ
reply (denied e) = e
reply (granted b a ps) = 0

abbrev pub gives : Fate → ℕ
gives (denied e) = 0
gives (granted b a ps) = b

abbrev pub after : Ledger → ℕ → Fate → Ledger
after a n (denied e) = a
after a n (granted b a' ps) = put_into a' n ps
