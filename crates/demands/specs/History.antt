-- The history of a list of calls: a fold over the log, which sees neither image nor table. What it shows of files; and, for comparison, the
-- files as they stand in image and table.
use Rattle.std.specs.Prelude.{◌≡◌, Bool, true, false, List, [], ◌∷◌, ◌++◌, ℕ, zero, suc, ◌+◌, ◌-◌, ◌*◌, length, get_or, drop, eqb, ltb}
use Rattle.rules.specs.Bytes.{pick, ◌and◌, ◌or◌, part, one, same}
use Rattle.rules.specs.Stores.{put}
use Rattle.rules.specs.Directory.{live, place_of, member, slots}
use Rattle.rules.specs.Block.{uses}
use Rattle.demands.specs.Ledger.{Call, setting, extending, asking, block_of, writes_raw, File, Block, closed, listing, reading, writing, Ledger, file, block, asks, holds_open, put_into, Fate, fate, reply, gives, after}
use Rattle.demands.specs.Diskette.{files_at}
use Rattle.demands.specs.Service.{Entry}

-- ---- the fold

-- a refused call leaves its number in byte 1 of its block, and nothing where there is no such block; a refused preset nothing
abbrev pub noted : Ledger → Call → ℕ → Ledger
noted a (setting n i v) e = a
noted a (extending n c) e = a
noted a (asking n b) e = put_into a n (put 1 (one e) ∷ [])

-- a call of the log: the ledger that the history had before it, the call, what it comes to there, and what was answered and given
pub record Scene : Type 0 where
  pub before : Ledger
  pub made : Call
  pub due : Fate
  pub ans : ℕ
  pub back : ℕ

module _ (M S : ℕ) where
  -- the ledger after a call that was answered so: an accepted call alone has its fate
  unfoldable pub then : Ledger → Entry → Ledger
  then a e = pick (eqb e.ans 0) (after a (block_of e.made) (fate M S a e.made)) (noted a e.made e.ans)

  -- THE HISTORY
  unfoldable pub history : Ledger → List Entry → Ledger
  history a [] = a
  history a (e ∷ es) = history (then a e) es

  unfoldable pub scenes : Ledger → List Entry → List Scene
  scenes a [] = []
  scenes a (e ∷ es) = record { before = a; made = e.made; due = fate M S a e.made; ans = e.ans; back = e.back } ∷ scenes (then a e) es

-- every answer, and every byte, is as predicted
abbrev pub Told : List Scene → Type 0
Told [] = Unit {0}
Told (c ∷ cs) = (c.ans ≡ reply c.due) × (c.back ≡ gives c.due) × Told cs

-- ---- what a call of the log asked for, by the history

abbrev pub on_call : {A : Type 0} → Call → A → (ℕ → ℕ → A) → A
on_call (setting n i v) e f = e
on_call (extending n c) e f = e
on_call (asking n b) e f = f n b

-- it was a call of block n for this function
abbrev pub calls : ℕ → ℕ → Scene → Bool
calls n code c = on_call c.made false (λ m b. eqb m n and eqb (asks c.before m b).code code)

-- every accepted call of block n was for one of these functions
abbrev pub Only : ℕ → List ℕ → List Scene → Type 0
Only n codes [] = Unit {0}
Only n codes (c ∷ cs) =
    (c.ans ≡ 0 → on_call c.made true (λ m b. pick (eqb m n) (member (asks c.before m b).code codes) true) ≡ true) × Only n codes cs

-- it was accepted, and deletes or renames (function 12 or 13) the file of this name
abbrev pub hits : ℕ → List ℕ → Scene → Bool
hits code nm c =
    eqb c.ans 0
    and on_call c.made false (λ m b. eqb (asks c.before m b).code code and same (asks c.before m b).name nm)

-- the file's name after the call, and after all of them
abbrev pub name_after : List ℕ → Scene → List ℕ
name_after nm c = pick (hits 13 nm c) (on_call c.made nm (λ m b. (asks c.before m b).rename)) nm

unfoldable pub name_then : List ℕ → List Scene → List ℕ
name_then nm [] = nm
name_then nm (c ∷ cs) = name_then (name_after nm c) cs

-- the functions that end a file, under its name; and those that change it, its name too
abbrev pub ending : List ℕ
ending = 12 ∷ []

abbrev pub changing : List ℕ
changing = 13 ∷ ending

-- it is none of these functions on the file of this name
abbrev pub Misses : List ℕ → List ℕ → Scene → Type 0
Misses [] nm c = Unit {0}
Misses (code ∷ codes) nm c = (hits code nm c ≡ false) × Misses codes nm c

-- none of these functions comes to the file, whatever its name is by then; none comes to the file of this name
abbrev pub Survives : List ℕ → List ℕ → List Scene → Type 0
Survives codes nm [] = Unit {0}
Survives codes nm (c ∷ cs) = Misses codes nm c × Survives codes (name_after nm c) cs

abbrev pub Unnamed : List ℕ → List ℕ → List Scene → Type 0
Unnamed codes nm [] = Unit {0}
Unnamed codes nm (c ∷ cs) = Misses codes nm c × Unnamed codes nm cs

-- it is a raw write (function 8 or 10) that is due to be accepted: by the history, whatever a service answers
abbrev pub raw : Scene → Bool
raw c = on_call c.made false (λ m b. writes_raw (asks c.before m b).code and eqb (reply c.due) 0)

-- PLAIN CALLS: no raw write is due. Of other lists demands 2 and 3 say nothing: they speak again from a start
abbrev pub Plain : List Scene → Type 0
Plain [] = Unit {0}
Plain (c ∷ cs) = (raw c ≡ false) × Plain cs

-- ---- the calls of one block

-- the byte that block n sent and that was accepted, if it did; all of them
abbrev pub sent_in : ℕ → Scene → List ℕ
sent_in n c = pick (calls n 0 c) (pick (eqb c.ans 0) (on_call c.made [] (λ m b. b ∷ [])) []) []

unfoldable pub sent_by : ℕ → List Scene → List ℕ
sent_by n [] = []
sent_by n (c ∷ cs) = sent_in n c ++ sent_by n cs

-- in the ledger: the bytes that a block still holds of the file that it writes
abbrev pub unfinished : Block → List ℕ
unfinished closed = []
unfinished (listing p) = []
unfinished (reading s j i) = []
unfinished (writing s ub) = ub

-- a byte can be stored: a sector is free, or the last one is unfinished
abbrev pub room : Ledger → ℕ → Bool
room a n = ltb 0 (length a.free) or ltb 0 (length (unfinished (block a n)))

-- while there is room every byte of block n is accepted
abbrev pub Accepts : ℕ → List Scene → Type 0
Accepts n [] = Unit {0}
Accepts n (c ∷ cs) = (calls n 0 c ≡ true → room c.before n ≡ true → c.ans ≡ 0) × Accepts n cs

-- how many of the bytes l block n has had after the call: one more after a read, none after a rewind
abbrev pub read_to : ℕ → ℕ → List ℕ → Scene → ℕ
read_to n p l c = pick (calls n 0 c) (pick (ltb p (length l)) (p + 1) p) (pick (calls n 5 c) 0 p)

-- every read of block n gives the next of the bytes l, from p on, and at their end 8; every rewind is accepted
abbrev pub Reads : ℕ → ℕ → List ℕ → List Scene → Type 0
Reads n p l [] = Unit {0}
Reads n p l (c ∷ cs) =
    (calls n 0 c ≡ true → (c.ans ≡ pick (ltb p (length l)) 0 8) × (c.back ≡ get_or l p 0))
    × (calls n 5 c ≡ true → c.ans ≡ 0)
    × Reads n (read_to n p l c) l cs

-- ---- files as they are shown: name, attributes, the byte of the sector map, date, and bytes

abbrev pub concat : List (List ℕ) → List ℕ
concat [] = []
concat (d ∷ ds) = d ++ concat ds

abbrev pub front : List (List ℕ) → List (List ℕ)
front [] = []
front (d ∷ []) = []
front (d ∷ e ∷ ds) = d ∷ front (e ∷ ds)

-- the bytes of sectors, the last of which has got only ub yet, if there are such bytes
unfoldable pub content : List (List ℕ) → List ℕ → List ℕ
content body ub = pick (eqb (length ub) 0) (concat body) (concat (front body) ++ ub)

pub record Shown : Type 0 where
  pub name : List ℕ
  pub mode : List ℕ
  pub map : List ℕ
  pub date : List ℕ
  pub bytes : List ℕ

-- a file, of which a block holds the bytes ub
abbrev pub as_shown : File → List ℕ → Shown
as_shown f ub = record { name = f.name; mode = f.mode; map = f.map; date = f.date; bytes = content f.body ub }

-- in the ledger: the bytes that a block still holds of slot s
unfoldable pub pending : List Block → ℕ → ℕ → List ℕ
pending bs s zero = []
pending bs s (suc n) = pick (holds_open false s (get_or bs n closed)) (unfinished (get_or bs n closed)) (pending bs s n)

unfoldable pub shown_from : List Block → ℕ → List File → List Shown
shown_from bs s [] = []
shown_from bs s (f ∷ fs) = pick (live f.name 0) (as_shown f (pending bs s 8) ∷ shown_from bs (s + 1) fs) (shown_from bs (s + 1) fs)

-- THE SHOWN HISTORY: the live files in order
abbrev pub shown : Ledger → List Shown
shown a = shown_from a.blocks 0 a.slots

-- of a block that reads: how many bytes of its file it has had, and the bytes that are still to come
unfoldable pub had : ℕ → ℕ → ℕ
had j i = pick (eqb i 0) (252 * j) (252 * (j - 1) + (i - 4))

abbrev pub ahead : Ledger → Block → List ℕ
ahead a closed = []
ahead a (listing p) = []
ahead a (reading s j i) = drop (had j i) (concat (file a s).body)
ahead a (writing s ub) = []

-- in image and table: the bytes that a block which writes the slot at o holds in its buffer
unfoldable pub buffered : ℕ → List ℕ → ℕ → ℕ → List ℕ
buffered S tab o zero = []
buffered S tab o (suc n) =
    pick (uses false tab (place_of S o) n)
    (pick (eqb (get_or tab (320 * n + 34) 0) 0) [] (part tab (320 * n + 68) (get_or tab (320 * n + 34) 0 - 4)))
    (buffered S tab o n)

-- the live ones of these files of an image
unfoldable pub standing : ℕ → List ℕ → List File → List Shown
standing S tab [] = []
standing S tab (f ∷ fs) = pick (live f.name 0) (as_shown f (buffered S tab f.at 8) ∷ standing S tab fs) (standing S tab fs)

abbrev pub files_on : ℕ → ℕ → List ℕ → List ℕ → List Shown
files_on M S img tab = standing S tab (files_at S img (slots img M S))
