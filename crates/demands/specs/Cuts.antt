-- A POWER CUT: the power fails in a call, when some of its stores are made, and the control blocks are lost. What repair makes of the image that is left.
use Rattle.std.specs.Prelude.{◌≡◌, ◌≢◌, ◌⊎◌, Bool, true, false, List, [], ◌∷◌, ◌++◌, ℕ, ◌+◌, ◌-◌, ◌*◌, ◌/◌, ◌≤◌, ◌<◌, eqb, ltb, length, get_or, take}
use Rattle.rules.specs.Bytes.{pick, ◌or◌, within, byte_at, part, zeros}
use Rattle.rules.specs.Stores.{Store, stored}
use Rattle.rules.specs.Image.{last_track, per_track}
use Rattle.rules.specs.Directory.{live, member, first_slot_of, last_sector}
use Rattle.rules.specs.Outcome.{told as replied, on_image}
use Rattle.rules.specs.Call.{call}
use Rattle.laws.specs.Each.{Each}
use Rattle.laws.specs.Small.{Small}
use Rattle.laws.specs.Stores.{Inside}
use Rattle.demands.specs.Ledger.{Call, setting, extending, asking, File, writing, Ledger, file, block, asks, holds_open, unused_slots, fate}
use Rattle.demands.specs.Diskette.{files_at}
use Rattle.demands.specs.Service.{Service, img_of, Machine, SendsByte, answers, gave, next, run}
use Rattle.demands.specs.History.{Scene, on_call, hits, changing, Misses, Unnamed, Plain, concat, front}
use Rattle.demands.specs.Demands.{last_track_of, per_track_of, in_link, sectors_in, slots_in, place_in, chain_of, wholly, Begins, AsItWas, Closed, Start, told, past}
use Rattle.demands.specs.Repairs.{repairs, mended, LiveFile, SameSector, broken_off, bytes_of}

-- ---- the stores of a call, in order

-- the stores into the image that a call makes, of image and table, block and byte
abbrev pub Order : Type 0
Order = List ℕ → List ℕ → ℕ → ℕ → List Store

-- ours: the rules'
abbrev pub in_order : Order
in_order img tab n b = on_image (call img tab n b)

-- of any call: a preset and a default extension make none
abbrev pub stores_of : Order → Machine → Call → List Store
stores_of w y (setting n i v) = []
stores_of w y (extending n c) = []
stores_of w y (asking n b) = w y.img y.tab n b

-- they are the service's: all of them together give its image. Each lies in one sector, for a medium keeps a sector whole, old or new; of one that is torn
-- nothing is said
pub record Makes (σ : Service) (w : Order) : Type 0 where
  pub image : (img tab : List ℕ) (n b : ℕ) → stored img (w img tab n b) ≡ img_of (σ.call img tab n b)
  pub sectors : (img tab : List ℕ) (n b : ℕ) → Each (Inside (length img)) (w img tab n b)

-- ---- the image that is left of a call, made on the machine y, which it would have left as y'. The image of y is wholly on the medium: calls are written
-- one after another

pub data CutShort (w : Order) (y y' : Machine) (c : Call) (m : List ℕ) : Type 0 where
  -- the stores go into it in order, and so many were made
  stopped : (k : ℕ) → m ≡ stored y.img (take k (stores_of w y c)) → CutShort w y y' c m
  -- or the call was made in a copy, and the sectors that it changed are then written, in any order, those of the directory last: some of these are
  -- written, and none that the directory had before the call
  unlisted : length m ≡ length y.img → ((k : ℕ) → SameSector k m y.img ⊎ SameSector k m y'.img)
      → ((k : ℕ) → member k (sectors_in y y.img) ≡ true → SameSector k m y.img) → CutShort w y y' c m
  -- or all others are written, and some of the directory's
  listed : length m ≡ length y.img → ((k : ℕ) → SameSector k m y.img ⊎ SameSector k m y'.img)
      → ((k : ℕ) → member k (sectors_in y y.img) ≡ false → SameSector k m y'.img) → CutShort w y y' c m

-- ---- what repair makes of it

-- the ten slots of each of these sectors, never used
abbrev pub unused_in : List ℕ → List File
unused_in [] = []
unused_in (k ∷ ks) = unused_slots (first_slot_of k) 10 ++ unused_in ks

-- the files of an image of y's shape, slot by slot: where each stands, its 24 bytes, its sectors, and what these hold
abbrev pub files_in : Machine → List ℕ → List File
files_in y img = files_at (per_track_of y) img (slots_in y img)

-- the image that is left, and a table; what repair leaves of them
abbrev pub left_with : List ℕ → List ℕ → Machine
left_with m tab = record { img = m; tab = tab }

abbrev pub mended_of : Service → List ℕ → List ℕ → List ℕ
mended_of σ m tab = (mended σ (left_with m tab)).img

-- ALL FILES OF THE MACHINE y, of which the history has the ledger a, are there again
pub record Recovered (σ : Service) (y : Machine) (a : Ledger) (most : ℕ) (m tab : List ℕ) : Type 0 where
  -- repair answers 0, and the census then accepts: a start, from which the demands go on
  pub answer : repairs σ (left_with m tab) ≡ 0
  pub begins : Start (mended σ (left_with m tab))
  pub shape : (last_track (mended_of σ m tab) ≡ last_track_of y) × (per_track (mended_of σ m tab) ≡ per_track_of y)
  -- the power may fail in repair too, after any of its stores, however often: made again it gives the same image
  pub resumes : (ws : List (List Bool)) (tab' : List ℕ) → length tab' ≡ 2560 → Closed tab'
      → σ.repair (broken_off m ws) tab' ≡ replied 0 (mended_of σ m tab)
  -- or when some sectors of the repaired image were written and others not, whichever
  pub recopies : (img tab' : List ℕ) → length img ≡ length m → ((k : ℕ) → SameSector k img m ⊎ SameSector k img (mended_of σ m tab))
      → length tab' ≡ 2560 → Closed tab' → σ.repair img tab' ≡ replied 0 (mended_of σ m tab)
  -- every slot and every file is the history's; the directory may have got `most` sectors at the most, of slots that were never used
  pub gained : List ℕ
  pub few : length gained ≤ most
  pub sectors : sectors_in y (mended_of σ m tab) ≡ a.dir ++ gained
  pub files : files_in y (mended_of σ m tab) ≡ a.slots ++ unused_in gained
  -- and has all 256 bytes of each of its sectors
  pub whole : (s : ℕ) → LiveFile y s → AsItWas y (mended_of σ m tab) s
  -- so is what is neither a file's nor free: boot sectors, label, volume number, date, what stands before the slots. Every byte of track 0 and of the directory's
  -- sectors is as it was, outside of the information record's 29-34 and of the link of the directory's last sector
  pub rest : (p : ℕ) → (ltb p (256 * per_track_of y) or member (p / 256) (sectors_in y y.img)) ≡ true → within 541 546 p ≡ false
      → in_link (last_sector y.img (last_track_of y) (per_track_of y)) p ≡ false → byte_at (mended_of σ m tab) p ≡ byte_at y.img p

-- ---- the call that was cut short

-- after the calls cs, by the history
abbrev pub scene_after : Service → Machine → List Call → Call → Scene
scene_after σ x cs c =
    record { before = told σ x cs; made = c; due = fate (last_track_of x) (per_track_of x) (told σ x cs) c; ans = answers σ (run σ x cs) c; back = gave σ (run σ x cs) c }

-- its block writes slot s
abbrev pub writes_slot : Ledger → Call → ℕ → Bool
writes_slot a c s = on_call c false (λ n b. holds_open false s (block a n))

-- the name that a rename gives
abbrev pub new_name : Ledger → Call → List ℕ
new_name a c = on_call c [] (λ n b. (asks a n b).rename)

-- the bytes of a file's complete sectors: of all, or of all but the last where a block holds bytes ub of that one
abbrev pub complete : File → List ℕ → List ℕ
complete f ub = pick (eqb (length ub) 0) (concat f.body) (concat (front f.body))

-- slot s of y has another name, and all else that it had
pub record Renamed (y : Machine) (img : List ℕ) (s : ℕ) (nm : List ℕ) : Type 0 where
  pub name : part img (place_in y s) 11 ≡ nm
  pub slot : part img (place_in y s + 11) 13 ≡ part y.img (place_in y s + 11) 13
  pub sectors : chain_of y img s ≡ chain_of y y.img s
  pub bytes : wholly img (chain_of y y.img s) ≡ wholly y.img (chain_of y y.img s)

pub record AfterCut (σ : Service) (x : Machine) (cs : List Call) (c : Call) (m tab : List ℕ) : Type 0 where
  -- ALL OR NOTHING: every file is as before the call, or every file is as after it
  pub either : Recovered σ (run σ x cs) (told σ x cs) 1 m tab ⊎ Recovered σ (run σ x (cs ++ c ∷ [])) (told σ x (cs ++ c ∷ [])) 0 m tab
  -- the directory has the sectors of before the call or those of after it
  pub grows : (sectors_in (run σ x cs) (mended_of σ m tab) ≡ (told σ x cs).dir) ⊎ (sectors_in (run σ x cs) (mended_of σ m tab) ≡ (told σ x (cs ++ c ∷ [])).dir)
  -- so: a file that the call neither writes nor deletes nor renames keeps every byte
  pub others : (s : ℕ) → LiveFile (run σ x cs) s → writes_slot (told σ x cs) c s ≡ false → Misses changing (file (told σ x cs) s).name (scene_after σ x cs c)
      → AsItWas (run σ x cs) (mended_of σ m tab) s
  -- one that it deletes is whole or gone
  pub deleted : (s : ℕ) → LiveFile (run σ x cs) s → hits 12 (file (told σ x cs) s).name (scene_after σ x cs c) ≡ true
      → AsItWas (run σ x cs) (mended_of σ m tab) s ⊎ (live (mended_of σ m tab) (place_in (run σ x cs) s) ≡ false)
  -- one that it renames has its old or its new name
  pub renamed : (s : ℕ) → LiveFile (run σ x cs) s → hits 13 (file (told σ x cs) s).name (scene_after σ x cs c) ≡ true
      → AsItWas (run σ x cs) (mended_of σ m tab) s ⊎ Renamed (run σ x cs) (mended_of σ m tab) s (new_name (told σ x cs) c)
  -- one that a block writes, this call's or another, has all its complete sectors
  pub written : (n s : ℕ) (ub : List ℕ) → n < 8 → block (told σ x cs) n ≡ writing s ub
      → Begins (complete (file (told σ x cs) s) ub) (bytes_of (run σ x cs) (mended_of σ m tab) s)

-- ---- NIGHTS, each ended by a power cut and a repair

pub record Night : Type 0 where
  -- what was called; the call in which the power failed, and the image that it left
  pub calls : List Call
  pub last : Call
  pub left : List ℕ
  -- what is there in the morning, if repairs were broken off too; the table then
  pub found : List ℕ
  pub table : List ℕ

abbrev pub called : Night → List Call
called ν = ν.calls ++ ν.last ∷ []

module _ (σ : Service) where
  -- what the box begins the next night with
  abbrev pub morning : Night → Machine
  morning ν = mended σ (left_with ν.found ν.table)

  unfoldable pub nights : Machine → List Night → Machine
  nights x [] = x
  nights x (ν ∷ νs) = nights (morning ν) νs

  -- no call of any night, the cut ones among them, deletes or renames the file of this name
  abbrev pub Untouched : List ℕ → Machine → List Night → Type 0
  Untouched nm x [] = Unit {0}
  Untouched nm x (ν ∷ νs) = Unnamed changing nm (past σ x (called ν)) × Untouched nm (morning ν) νs

-- what repairs of the image m that were broken off, however often, have left of it: each by the mask of its stores that were made; or each made in a
-- copy, of which some sectors were written
pub data Retried (σ : Service) (m tab m' : List ℕ) : Type 0 where
  storing : (ws : List (List Bool)) → m' ≡ broken_off m ws → Retried σ m tab m'
  copied : length m' ≡ length m → ((k : ℕ) → SameSector k m' m ⊎ SameSector k m' (mended_of σ m tab)) → Retried σ m tab m'

module _ (σ : Service) (w : Order) where
  -- a night that begins with the machine x
  pub record Passes (x : Machine) (ν : Night) : Type 0 where
    pub plain : Plain (past σ x (called ν))
    pub bytes : Each SendsByte (called ν)
    pub short : CutShort w (run σ x ν.calls) (run σ x (called ν)) ν.last ν.left
    pub found : Retried σ ν.left ν.table ν.found
    pub table : length ν.table ≡ 2560
    pub closed : Closed ν.table
    pub small : Small ν.table

  abbrev pub Pass : Machine → List Night → Type 0
  Pass x [] = Unit {0}
  Pass x (ν ∷ νs) = Passes x ν × Pass (morning σ ν) νs

-- ---- THE DEMAND, of a service that makes its stores in this order

-- from a start whose table is bytes, after any plain calls, in any plain call, wherever it is cut short; whatever the closed blocks hold afterwards
abbrev pub Survivable : Service → Order → Type 0
Survivable σ w = (x : Machine) → Start x → Small x.tab → (cs : List Call) (c : Call) → Each SendsByte (cs ++ c ∷ []) → Plain (past σ x (cs ++ c ∷ []))
    → (m tab : List ℕ) → CutShort w (run σ x cs) (run σ x (cs ++ c ∷ [])) c m → length tab ≡ 2560 → Closed tab → AfterCut σ x cs c m tab

pub record PowerCut (σ : Service) (w : Order) : Type 0 where
  pub makes : Makes σ w
  pub cut : Survivable σ w
  -- the stores in order: while the last is missing every file, the call's own too, is as before the call; with it, as after.
  -- Here c may be a raw write: before its one store no file has changed
  pub nothing : (x : Machine) → Start x → Small x.tab → (cs : List Call) (c : Call) → Each SendsByte cs → Plain (past σ x cs)
      → (k : ℕ) → k < length (stores_of w (run σ x cs) c) → (tab : List ℕ) → length tab ≡ 2560 → Closed tab
      → Recovered σ (run σ x cs) (told σ x cs) 1 (stored (run σ x cs).img (take k (stores_of w (run σ x cs) c))) tab
  pub all : (x : Machine) → Start x → Small x.tab → (cs : List Call) (c : Call) → Each SendsByte (cs ++ c ∷ []) → Plain (past σ x (cs ++ c ∷ []))
      → (k : ℕ) → length (stores_of w (run σ x cs) c) ≤ k → (tab : List ℕ) → length tab ≡ 2560 → Closed tab
      → Recovered σ (run σ x (cs ++ c ∷ [])) (told σ x (cs ++ c ∷ [])) 0 (stored (run σ x cs).img (take k (stores_of w (run σ x cs) c))) tab
  -- of the directory's sectors a call changes one at most: the last that a host writes
  pub single : (x : Machine) → Start x → Small x.tab → (cs : List Call) (c : Call) → Each SendsByte cs → Plain (past σ x cs)
      → (d : ℕ) × ((k : ℕ) → member k (sectors_in (run σ x cs) (run σ x cs).img) ≡ true → k ≢ d → SameSector k (next σ (run σ x cs) c).img (run σ x cs).img)
  -- what it costs: the bytes that a block holds of a sector that is not full yet. Until the sector is stored it has zeros
  pub costs : (x : Machine) → Start x → (cs : List Call) → Plain (past σ x cs) → (n s : ℕ) (ub : List ℕ) → n < 8 → block (told σ x cs) n ≡ writing s ub
      → 1 ≤ length ub → (length ub ≤ 251) × (get_or (file (told σ x cs) s).body (length (file (told σ x cs) s).body - 1) [] ≡ zeros 252)
  -- ANY NUMBER OF NIGHTS: a start in the morning; a file of the first start that no call deletes or renames keeps all
  pub begins : (x : Machine) → Start x → Small x.tab → (νs : List Night) → Pass σ w x νs → Start (nights σ x νs)
  pub lasts : (x : Machine) → Start x → Small x.tab → (νs : List Night) → Pass σ w x νs → (s : ℕ) → LiveFile x s
      → Untouched σ (part x.img (place_in x s) 11) x νs → AsItWas x (nights σ x νs).img s
