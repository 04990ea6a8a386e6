-- THE THREE DEMANDS, as predicates over services.
use Rattle.std.specs.Prelude.{◌≡◌, ◌≢◌, Bool, true, false, List, [], ◌∷◌, ◌++◌, ℕ, zero, suc, ◌+◌, ◌-◌, ◌*◌, ◌/◌, ◌%◌, ◌≤◌, ◌<◌, eqb, ltb, length, get_or, drop}
use Rattle.rules.specs.Bytes.{pick, ◌and◌, ◌or◌, within, byte_at, part, over, one, two, zeros}
use Rattle.rules.specs.Image.{last_track, per_track, index, is_sector}
use Rattle.rules.specs.Names.{legal}
use Rattle.rules.specs.Directory.{live, member, directory, last_sector, slots, size_at}
use Rattle.rules.specs.Outcome.{done, answer, given, settled, out, says_of, left_of}
use Rattle.rules.specs.Block.{function_in, activity_in, idle}
use Rattle.rules.specs.Call.{checked, call}
use Rattle.rules.specs.Census.{Survey, survey, census, tally}
use Rattle.laws.specs.Small.{Small}
use Rattle.laws.specs.Addresses.{Shape}
use Rattle.laws.specs.Effects.{answer_numbers, repair_numbers}
use Rattle.laws.specs.Blank.{format_numbers}
use Rattle.chains.specs.Once.{rising}
use Rattle.chains.specs.Chain.{pieces}
use Rattle.chains.specs.Walk.{chain_at}
use Rattle.demands.specs.Ledger.{Call, asking, writes_raw, File, listing, Ledger, file, block, asks, activity, entry_of, image_of, table_of, nowhere, slot, file_named, slot_for_new}
use Rattle.demands.specs.Diskette.{ledger_of, ledger_numbers, ledger_owners}
use Rattle.demands.specs.Service.{Wanted, Service, flex, ans_of, byte_of, img_of, tab_of, Machine, answers, gave, next, entry, run, log}
use Rattle.demands.specs.History.{Scene, then, history, scenes, Told, Plain, Only, ending, changing, name_then, Survives, Unnamed, sent_by, Accepts, Reads, shown, files_on, ahead}

-- ---- DEMAND 1: for any bytes of image and table

-- "13 for table or number": the table is lent rightly and has the block
pub record Lent (tab : List ℕ) (n : ℕ) : Type 0 where
  pub table : length tab ≡ 2560
  pub block : n < 8

-- "Order for every FMS call: .. 16 shape, 1, 16 drive, 18": the first that refuses the block that begins at f; 0 where none does
abbrev pub first_refusal : List ℕ → List ℕ → ℕ → ℕ
first_refusal img tab f = answer (settled (checked img tab f (done 0 [] [])))

-- "Bytes not named here stay": an accepted call of this code and activity names byte i of its block, beside byte 1
unfoldable pub names : ℕ → ℕ → ℕ → Bool
names code act i =
    pick (eqb code 0) (within 30 34 i or within 64 319 i or eqb act 2 and within 17 22 i)
    (pick (within 1 2 code) (within 4 27 i or within 30 35 i or within 47 49 i or member i (0 ∷ 2 ∷ 59 ∷ []))
    (pick (eqb code 4) (eqb i 2)
    (pick (eqb code 5) (member i (0 ∷ 30 ∷ 31 ∷ 34 ∷ []))
    (pick (eqb code 6) (within 47 49 i or eqb i 2)
    (pick (eqb code 7) (within 47 49 i or within 4 27 i)
    (pick (writes_raw code) false
    (pick (eqb code 9) (within 64 319 i)
    (pick (eqb code 12) (within 4 27 i)
    (within 4 14 i)))))))))

-- it stores nothing in the image: reading, open for read, rewind, open directory, next slot, read sector, close but of a file that is written
unfoldable pub looks : ℕ → ℕ → Bool
looks code act = pick (eqb code 0) (eqb act 1) (pick (eqb code 4) (pick (eqb act 2) false true) (member code (1 ∷ 5 ∷ 6 ∷ 7 ∷ 9 ∷ [])))

-- what follows from the equations of demand 1, below, and is there because it is the user's words
pub record InWords (σ : Service) : Type 0 where
  -- format has three numbers and repair six, and their refusals change nothing
  pub format_stated : (img : List ℕ) (w : Wanted) → member (says_of (σ.format img w)) format_numbers ≡ true
  pub format_refused : (img : List ℕ) (w : Wanted) → says_of (σ.format img w) ≢ 0 → left_of (σ.format img w) ≡ img
  pub repair_stated : (img tab : List ℕ) → member (says_of (σ.repair img tab)) repair_numbers ≡ true
  pub repair_refused : (img tab : List ℕ) → says_of (σ.repair img tab) ≢ 0 → left_of (σ.repair img tab) ≡ img
  -- a call of a wrong table or number: nothing at all
  pub none : (img tab : List ℕ) (n b : ℕ) → (Lent tab n → ⊥) → σ.call img tab n b ≡ out 13 0 img tab
  -- "Numbers given back": one of the stated numbers; the one, and the byte, that the papers have for this call; 16, 1, 16, 18 / 13 before all else
  pub stated : (img tab : List ℕ) (n b : ℕ) → member (ans_of (σ.call img tab n b)) answer_numbers ≡ true
  pub exact : (img tab : List ℕ) (n b : ℕ) → (ans_of (σ.call img tab n b) ≡ answer (call img tab n b)) × (byte_of (σ.call img tab n b) ≡ given (call img tab n b))
  pub early : (img tab : List ℕ) (n b : ℕ) → Lent tab n → first_refusal img tab (320 * n) ≢ 0 → ans_of (σ.call img tab n b) ≡ first_refusal img tab (320 * n)
  -- a refusal: byte 0, the same image, the same table but for byte 1 of the block
  pub refused : (img tab : List ℕ) (n b : ℕ) → Lent tab n → ans_of (σ.call img tab n b) ≢ 0
      → σ.call img tab n b ≡ out (ans_of (σ.call img tab n b)) 0 img (over tab (320 * n + 1) (one (ans_of (σ.call img tab n b))))
  -- any call: lengths stay; byte 1 is the answer; a byte is given in reading only
  pub lengths : (img tab : List ℕ) (n b : ℕ) → (length (img_of (σ.call img tab n b)) ≡ length img) × (length (tab_of (σ.call img tab n b)) ≡ length tab)
  pub error : (img tab : List ℕ) (n b : ℕ) → Lent tab n → byte_at (tab_of (σ.call img tab n b)) (320 * n + 1) ≡ ans_of (σ.call img tab n b)
  pub silent : (img tab : List ℕ) (n b : ℕ) → (function_in tab (320 * n) ≡ 0 → activity_in tab (320 * n) ≢ 1) → byte_of (σ.call img tab n b) ≡ 0
  -- where the table has bytes: the other blocks stay; so do the bytes of its own that the function does not name
  pub others : (img tab : List ℕ) (n b p : ℕ) → Small tab → (320 * n ≤ p → p < 320 * n + 320 → ⊥) → byte_at (tab_of (σ.call img tab n b)) p ≡ byte_at tab p
  pub unnamed : (img tab : List ℕ) (n b i : ℕ) → Small tab → i < 320 → i ≢ 1 → names (function_in tab (320 * n)) (activity_in tab (320 * n)) i ≡ false
      → byte_at (tab_of (σ.call img tab n b)) (320 * n + i) ≡ byte_at tab (320 * n + i)
  -- what only looks leaves the image
  pub looking : (img tab : List ℕ) (n b : ℕ) → looks (function_in tab (320 * n)) (activity_in tab (320 * n)) ≡ true → img_of (σ.call img tab n b) ≡ img

pub record Demand1 (σ : Service) : Type 0 where
  -- the user: "Each function does what the FLEX Programmer's Manual says, as made exact in document 01". Whatever image, table, block and byte are, the
  -- answer, the byte given, and every byte of image and table are the rules'
  pub does : (img tab : List ℕ) (n b : ℕ) → σ.call img tab n b ≡ flex.call img tab n b
  -- so do the other six
  pub preset : (tab : List ℕ) (n i v : ℕ) → σ.preset tab n i v ≡ flex.preset tab n i v
  pub extension : (tab : List ℕ) (n c : ℕ) → σ.extension tab n c ≡ flex.extension tab n c
  pub text : (m : List ℕ) (e : ℕ) → σ.text m e ≡ flex.text m e
  pub census : (img xs ys : List ℕ) → σ.census img xs ys ≡ flex.census img xs ys
  pub format : (img : List ℕ) (w : Wanted) → σ.format img w ≡ flex.format img w
  pub repair : (img tab : List ℕ) → σ.repair img tab ≡ flex.repair img tab
  pub words : InWords σ

-- ---- the start, for demands 2 and 3

abbrev pub survey_answer : Survey → ℕ
survey_answer (survey a xs ys) = a

-- last track and sectors a track, of the start; how many data sectors there are
abbrev pub last_track_of : Machine → ℕ
last_track_of x = last_track x.img

abbrev pub per_track_of : Machine → ℕ
per_track_of x = per_track x.img

abbrev pub data_sectors : List ℕ → ℕ
data_sectors img = last_track img * per_track img

-- every block is closed, whatever else it holds. Control blocks that are all zero are such blocks
abbrev pub Closed : List ℕ → Type 0
Closed tab = (n : ℕ) → n < 8 → activity_in tab (320 * n) ≡ 0

-- "From an image that the census accepts", every byte below 256, and a table whose blocks are closed
pub record Start (x : Machine) : Type 0 where
  pub accepted : survey_answer (census x.img (zeros (data_sectors x.img)) (zeros (data_sectors x.img))) ≡ 0
  pub bytes : Small x.img
  pub table : length x.tab ≡ 2560
  pub closed : Closed x.tab

-- label and date are bytes
pub record Typed (w : Wanted) : Type 0 where
  pub label : Small w.label
  pub month : w.month < 256
  pub day : w.day < 256
  pub year : w.year < 256

-- 02: "they speak again from the blank one, with no control block open on it"; "The census must accept every blank diskette, with the numbers in
-- rising order": what an accepted format leaves is a start, with any table whose blocks are closed; its census lists 0, 1, 2, .., all free
pub record FromBlank (σ : Service) : Type 0 where
  -- what 02 does not refuse is accepted
  pub accepts : (img : List ℕ) (w : Wanted) → Shape w.last w.per → length img ≡ (w.last + 1) * w.per * 256 → length w.label ≡ 11
      → says_of (σ.format img w) ≡ 0
  pub begins : (img : List ℕ) (w : Wanted) (tab : List ℕ) → says_of (σ.format img w) ≡ 0 → Typed w → length tab ≡ 2560 → Closed tab
      → Start (record { img = left_of (σ.format img w); tab = tab })
  pub lists : (img : List ℕ) (w : Wanted) (xs ys : List ℕ) → says_of (σ.format img w) ≡ 0 → length xs ≡ w.last * w.per → length ys ≡ w.last * w.per
      → σ.census (left_of (σ.format img w)) xs ys ≡ survey 0 (rising 0 (w.last * w.per)) (zeros (w.last * w.per))

-- the history's ledger of the start; what it has after these calls, and each of them with what it had before: folds over the log
abbrev pub begun : Machine → Ledger
begun x = ledger_of (last_track_of x) (per_track_of x) x.img x.tab

abbrev pub told : Service → Machine → List Call → Ledger
told σ x cs = history (last_track_of x) (per_track_of x) (begun x) (log σ x cs)

abbrev pub past : Service → Machine → List Call → List Scene
past σ x cs = scenes (last_track_of x) (per_track_of x) (begun x) (log σ x cs)

-- by the history block n asks for this function, on drive 0
pub record Asks (a : Ledger) (n code : ℕ) : Type 0 where
  pub block : n < 8
  pub function : (asks a n 0).code ≡ code
  pub drive : (asks a n 0).drive ≡ 0

-- by the history block n has no file open; its name
abbrev pub Idle : Ledger → ℕ → Type 0
Idle a n = idle (activity (block a n)) ≡ true

abbrev pub name_of : Ledger → ℕ → List ℕ
name_of a n = (asks a n 0).name

-- ---- DEMAND 2: what is written comes back

-- how many zeros follow n bytes up to the end of their last sector
abbrev pub rest : ℕ → ℕ
rest n = (252 - n % 252) % 252

-- record numbers, c of them, from i on
unfoldable pub counted : ℕ → ℕ → List (List ℕ)
counted i zero = []
counted i (suc c) = two i ∷ counted (i + 1) c

-- for a service on a diskette of M, S: machine x, and the ledger a that the history has at this point
module _ (σ : Service) (M S : ℕ) where
  -- the history's ledger after a call; what is called from there on, and the ledger then
  abbrev pub ledger_after : Machine → Ledger → Call → Ledger
  ledger_after x a c = then M S a (entry σ x c)

  abbrev pub since : Machine → Ledger → List Call → List Scene
  since x a cs = scenes M S a (log σ x cs)

  abbrev pub told_since : Machine → Ledger → List Call → Ledger
  told_since x a cs = history M S a (log σ x cs)

  -- block m opens the file under its name of then: accepted; then, until it closes, it reads: the bytes, and 8; from the start after each rewind
  pub record ReadBack (x : Machine) (a : Ledger) (bytes : List ℕ) (m b : ℕ) : Type 0 where
    pub opens : answers σ x (asking m b) ≡ 0
    pub reads : (cs : List Call) → Plain (since (next σ x (asking m b)) (ledger_after x a (asking m b)) cs)
        → Only m (0 ∷ 5 ∷ []) (since (next σ x (asking m b)) (ledger_after x a (asking m b)) cs)
        → Reads m 0 bytes (since (next σ x (asking m b)) (ledger_after x a (asking m b)) cs)

  -- whatever is called, short of deleting the file in slot s, its sectors have the record numbers 1, 2, 3, .. and it is read back under its name of then
  pub record Kept (x : Machine) (a : Ledger) (s : ℕ) (nm sent : List ℕ) : Type 0 where
    pub numbers : (cs : List Call) → Plain (since x a cs) → Survives ending nm (since x a cs)
        → pieces 2 2 (run σ x cs).img (file (told_since x a cs) s).secs ≡ counted 1 ((length sent + 251) / 252)
    pub back : (cs : List Call) → Plain (since x a cs) → Survives ending nm (since x a cs) → (m b : ℕ) → Asks (told_since x a cs) m 1
        → Idle (told_since x a cs) m → name_of (told_since x a cs) m ≡ name_then nm (since x a cs)
        → ReadBack (run σ x cs) (told_since x a cs) (sent ++ zeros (rest (length sent))) m b

  -- block n has written into the new file in slot s, whatever else was called: every byte was accepted where there was room, its sectors are
  -- those of the bytes sent, their record numbers 1, 2, 3, ..; where it now asks for function 4, the close is accepted
  pub record WrittenTo (x : Machine) (a : Ledger) (n s : ℕ) (nm : List ℕ) (cs : List Call) : Type 0 where
    pub accepts : Accepts n (since x a cs)
    pub size : size_at (run σ x cs).img (file a s).at ≡ (length (sent_by n (since x a cs)) + 251) / 252
    pub records : pieces 2 2 (run σ x cs).img (file (told_since x a cs) s).secs ≡ counted 1 ((length (sent_by n (since x a cs)) + 251) / 252)
    pub closes : (b : ℕ) → Asks (told_since x a cs) n 4 → answers σ (run σ x cs) (asking n b) ≡ 0
    pub kept : (b : ℕ) → Asks (told_since x a cs) n 4 → 1 ≤ length (sent_by n (since x a cs))
        → Kept (next σ (run σ x cs) (asking n b)) (ledger_after (run σ x cs) (told_since x a cs) (asking n b)) s nm (sent_by n (since x a cs))

  -- a new file is opened for write: accepted; then any calls, of block n's own only function 0 accepted
  pub record Created (x : Machine) (a : Ledger) (n s b : ℕ) : Type 0 where
    pub opens : answers σ x (asking n b) ≡ 0
    pub writes : (cs : List Call) → Plain (since (next σ x (asking n b)) (ledger_after x a (asking n b)) cs)
        → Only n (0 ∷ []) (since (next σ x (asking n b)) (ledger_after x a (asking n b)) cs)
        → WrittenTo (next σ x (asking n b)) (ledger_after x a (asking n b)) n s (name_of a n) cs

-- after these calls
pub record ComesBack (σ : Service) (x : Machine) (cs : List Call) : Type 0 where
  -- what 01 and 02 allow can be preset: so a block can be made to ask for what follows
  pub presets : (n i v : ℕ) → σ.preset (run σ x cs).tab n i v ≡ flex.preset (table_of (told σ x cs)) n i v
  -- and a legal name that no file has, where a slot or a free sector is left, is opened for write
  pub creates : (n s b : ℕ) → Asks (told σ x cs) n 2 → Idle (told σ x cs) n → legal (name_of (told σ x cs) n) 0 ≡ true
      → file_named (name_of (told σ x cs) n) (told σ x cs).slots ≡ nowhere → slot_for_new (told σ x cs) ≡ slot s
      → Created σ (last_track_of x) (per_track_of x) (run σ x cs) (told σ x cs) n s b

-- whatever was called before, but for a raw write
abbrev pub Demand2 : Service → Type 0
Demand2 σ = (x : Machine) → Start x → (cs : List Call) → Plain (past σ x cs) → ComesBack σ x cs

-- ---- DEMAND 3: the diskette stays sound, and is what the history says

-- byte p lies in the link of a sector
abbrev pub in_link : ℕ → ℕ → Bool
in_link k p = within (256 * k) (256 * k + 1) p

-- p lies in one of these slots
unfoldable pub in_slot : ℕ → List ℕ → Bool
in_slot p [] = false
in_slot p (o ∷ os) = within o (o + 23) p or in_slot p os

-- the directory's sectors, and its slots, of an image of the start's shape; slot s of the start begins here
abbrev pub sectors_in : Machine → List ℕ → List ℕ
sectors_in x img = directory img (last_track_of x) (per_track_of x)

abbrev pub slots_in : Machine → List ℕ → List ℕ
slots_in x img = slots img (last_track_of x) (per_track_of x)

abbrev pub place_in : Machine → ℕ → ℕ
place_in x s = get_or (slots_in x x.img) s 0

-- where the slots of a ledger begin
abbrev pub places_of : List File → List ℕ
places_of [] = []
places_of (f ∷ fs) = f.at ∷ places_of fs

-- the second list begins with the first
abbrev pub Begins : List ℕ → List ℕ → Type 0
Begins us vs = vs ≡ us ++ drop (length us) vs

-- all 256 bytes of each of these sectors
abbrev pub wholly : List ℕ → List ℕ → List (List ℕ)
wholly img ks = pieces 0 256 img ks

-- the sectors that slot s of the start has in an image, by its links and its stated size
abbrev pub chain_of : Machine → List ℕ → ℕ → List ℕ
chain_of x img s = chain_at (per_track_of x) img (place_in x s + 13)

-- slot s of the start is in this image as it was: its 24 bytes, its sectors, and all 256 bytes of each of them
pub record AsItWas (x : Machine) (img : List ℕ) (s : ℕ) : Type 0 where
  pub slot : part img (place_in x s) 24 ≡ part x.img (place_in x s) 24
  pub sectors : chain_of x img s ≡ chain_of x x.img s
  pub bytes : wholly img (chain_of x x.img s) ≡ wholly x.img (chain_of x x.img s)

pub record Sound (σ : Service) (x : Machine) (cs : List Call) : Type 0 where
  -- every answer and every byte is the one that the history predicts; every byte of image and table is what the history says
  pub answered : Told (past σ x cs)
  pub image : (run σ x cs).img ≡ image_of (per_track_of x) (told σ x cs)
  pub table : (run σ x cs).tab ≡ table_of (told σ x cs)
  -- the census accepts, and lists what the history has; each data sector once
  pub accepted : (xs ys : List ℕ) → length xs ≡ data_sectors x.img → length ys ≡ data_sectors x.img
      → σ.census (run σ x cs).img xs ys ≡ survey 0 (ledger_numbers (per_track_of x) (told σ x cs)) (ledger_owners (per_track_of x) (told σ x cs))
  pub each_once : (k : ℕ) → k < data_sectors x.img → tally k (ledger_numbers (per_track_of x) (told σ x cs)) ≡ 1
  pub no_more : length (ledger_numbers (per_track_of x) (told σ x cs)) ≡ data_sectors x.img
  -- the directory's sectors, and its slots, are the history's; the slots of the start stand where they stood, new ones behind them; each slot has its
  -- 24 bytes by the history; whatever is called next, no sector is given back
  pub sectors : sectors_in x (run σ x cs).img ≡ (told σ x cs).dir
  pub places : slots_in x (run σ x cs).img ≡ places_of (told σ x cs).slots
  pub stood : Begins (slots_in x x.img) (slots_in x (run σ x cs).img)
  pub keeps : (c : Call) → Plain (past σ x (cs ++ c ∷ [])) → Begins (told σ x cs).dir (told σ x (cs ++ c ∷ [])).dir
  pub entries : (s : ℕ) → s < length (slots_in x (run σ x cs).img) → part (run σ x cs).img (get_or (slots_in x (run σ x cs).img) s 0) 24 ≡ entry_of (file (told σ x cs) s)
  -- the files that image and table have, by links, an unfinished sector's bytes from its control block, are those that the history shows
  pub files : files_on (last_track_of x) (per_track_of x) (run σ x cs).img (run σ x cs).tab ≡ shown (told σ x cs)
  -- a block that reads gets the first of the bytes that are still to come, or 8
  pub readers : (n b : ℕ) → Asks (told σ x cs) n 0 → activity (block (told σ x cs) n) ≡ 1
      → (answers σ (run σ x cs) (asking n b) ≡ pick (eqb (length (ahead (told σ x cs) (block (told σ x cs) n))) 0) 8 0)
      × (gave σ (run σ x cs) (asking n b) ≡ get_or (ahead (told σ x cs) (block (told σ x cs) n)) 0 0)
  -- function 7 gives the slots in order, 9 the sector as it stands
  pub lists : (n b p : ℕ) → Asks (told σ x cs) n 7 → block (told σ x cs) n ≡ listing p → p < length (told σ x cs).slots
      → (answers σ (run σ x cs) (asking n b) ≡ 0)
      × (part (next σ (run σ x cs) (asking n b)).tab (320 * n + 4) 24 ≡ entry_of (file (told σ x cs) p))
  pub fetches : (n b : ℕ) → Asks (told σ x cs) n 9 → Idle (told σ x cs) n → is_sector (last_track_of x) (per_track_of x) (asks (told σ x cs) n b).position ≡ true
      → (answers σ (run σ x cs) (asking n b) ≡ 0)
      × (part (next σ (run σ x cs) (asking n b)).tab (320 * n + 64) 256 ≡ part (run σ x cs).img (256 * index (per_track_of x) (asks (told σ x cs) n b).position) 256)
  -- every byte of track 0, and of the directory's sectors, stays, outside of the slots, of the information record's 29-34 and of the link of the
  -- directory's last sector; a free sector stays while it is free
  pub stays : (p : ℕ) → (ltb p (256 * per_track_of x) or member (p / 256) (sectors_in x x.img)) ≡ true → within 541 546 p ≡ false
      → in_slot p (slots_in x x.img) ≡ false → in_link (last_sector x.img (last_track_of x) (per_track_of x)) p ≡ false
      → byte_at (run σ x cs).img p ≡ byte_at x.img p
  pub rests : (c : Call) → Plain (past σ x (cs ++ c ∷ [])) → (k : ℕ) → member k (told σ x cs).free ≡ true
      → member k (told σ x (cs ++ c ∷ [])).free ≡ true
      → part (run σ x (cs ++ c ∷ [])).img (256 * k + 2) 254 ≡ part (run σ x cs).img (256 * k + 2) 254
  -- a file of the start that no accepted call deletes or renames is as it was
  pub spared : (s : ℕ) → s < length (slots_in x x.img) → live x.img (place_in x s) ≡ true → Unnamed changing (part x.img (place_in x s) 11) (past σ x cs)
      → AsItWas x (run σ x cs).img s

abbrev pub Demand3 : Service → Type 0
Demand3 σ = (x : Machine) → Start x → (cs : List Call) → Plain (past σ x cs) → Sound σ x cs

-- ---- WHERE THEY SPEAK AGAIN

-- 02, "After either, demands 2 and 3 speak again only from an image that the census accepts with all FCBs closed": of the calls ds that come after the
-- calls cs, as if they were the first; and both halves are one list, with one log
pub record Again (σ : Service) (x : Machine) (cs ds : List Call) : Type 0 where
  pub back : ComesBack σ (run σ x cs) ds
  pub sound : Sound σ (run σ x cs) ds
  pub runs : run σ x (cs ++ ds) ≡ run σ (run σ x cs) ds
  pub logs : log σ x (cs ++ ds) ≡ log σ x cs ++ log σ (run σ x cs) ds

-- from any bytes, and whatever was called, raw writes and all
abbrev pub SpeakAgain : Service → Type 0
SpeakAgain σ = (x : Machine) (cs ds : List Call) → Start (run σ x cs) → Plain (past σ (run σ x cs) ds) → Again σ x cs ds
