-- 02, "Repair": what a repair that answers 0 leaves, as the user says it. All of it follows from demand 1, where repair is an equation.
use Rattle.std.specs.Prelude.{◌≡◌, ◌≢◌, ◌⊎◌, Bool, true, false, not, List, [], ◌∷◌, ◌++◌, ℕ, ◌+◌, ◌*◌, ◌/◌, ◌%◌, ◌≤◌, ◌<◌, ltb, length, get_or}
use Rattle.rules.specs.Bytes.{pick, ◌and◌, ◌or◌, within, byte_at, part, flat}
use Rattle.rules.specs.Stores.{stored}
use Rattle.rules.specs.Image.{shape_right, last_track, per_track, index, is_data, link_of}
use Rattle.rules.specs.Directory.{live, member, directory_right, start_at, size_at, last_of}
use Rattle.rules.specs.Outcome.{told, says_of, left_of}
use Rattle.rules.specs.Census.{twins, file_right}
use Rattle.rules.specs.Repair.{kept_in, repair_stores, kept_from}
use Rattle.laws.specs.Each.{chosen}
use Rattle.laws.specs.Small.{Small}
use Rattle.chains.specs.Chain.{contents}
use Rattle.chains.specs.Walk.{chain_at}
use Rattle.chains.specs.Files.{sectors_at}
use Rattle.demands.specs.Service.{Service, Machine}
use Rattle.demands.specs.Demands.{last_track_of, per_track_of, sectors_in, slots_in, place_in, chain_of, AsItWas, Begins, Closed, Start}

-- what repair answers, and image and table after it
abbrev pub repairs : Service → Machine → ℕ
repairs σ x = says_of (σ.repair x.img x.tab)

abbrev pub mended : Service → Machine → Machine
mended σ x = record { img = left_of (σ.repair x.img x.tab); tab = x.tab }

-- ---- files before the repair

-- slot s has a live file
pub record LiveFile (x : Machine) (s : ℕ) : Type 0 where
  pub slot : s < length (slots_in x x.img)
  pub alive : live x.img (place_in x s) ≡ true

-- "rightly chained", as the census judges it
abbrev pub RightlyChained : Machine → ℕ → Type 0
RightlyChained x s = file_right x.img (last_track_of x) (per_track_of x) (place_in x s) ≡ true

-- it has sector k, by its links and its stated size
abbrev pub Has : Machine → ℕ → ℕ → Type 0
Has x s k = member k (chain_of x x.img s) ≡ true

-- none of its sectors is the directory's
abbrev pub OffDirectory : Machine → ℕ → Type 0
OffDirectory x s = (k : ℕ) → Has x s k → member k (sectors_in x x.img) ≡ false

-- the sectors that another file reaches, damaged as it may be: by its links, while these lead to data sectors, none comes again, and its stated size
-- is not passed. If it stood alone it would keep these
abbrev pub reach_of : Machine → ℕ → List ℕ
reach_of x t = kept_from x.img (last_track_of x) (per_track_of x) (size_at x.img (place_in x t)) [] (start_at x.img (place_in x t))

-- "sharing nothing": no other file reaches one either
pub record SharesNothing (x : Machine) (s : ℕ) : Type 0 where
  pub directory : OffDirectory x s
  pub files : (t k : ℕ) → t ≢ s → LiveFile x t → Has x s k → member k (reach_of x t) ≡ false

-- what slot t keeps "In slot order", by the rules
abbrev pub kept_of : Machine → ℕ → List ℕ
kept_of x t = get_or (kept_in x.img (last_track_of x) (per_track_of x)) t []

-- less than that: no earlier file keeps one of them. A later file that runs into it gets nothing of it
pub record TakenByNone (x : Machine) (s : ℕ) : Type 0 where
  pub directory : OffDirectory x s
  pub earlier : (t k : ℕ) → t < s → Has x s k → member k (kept_of x t) ≡ false

-- ---- what a repair may store

-- p lies in bytes 13-19 of one of these slots, which is live: start, end, size, and the place of "byte 23"
unfoldable pub in_record : List ℕ → ℕ → List ℕ → Bool
in_record img p [] = false
in_record img p (o ∷ os) = live img o and within (o + 13) (o + 19) p or in_record img p os

-- there; the information record's 29-34; and, behind track 0, the link of a sector that is not the directory's
abbrev pub mends : Machine → ℕ → Bool
mends x p =
    pick (within 541 546 p) true
    (pick (in_record x.img p (slots_in x x.img)) true
    (pick (ltb p (256 * per_track_of x)) false
    (pick (member (p / 256) (sectors_in x x.img)) false (ltb (p % 256) 2))))

-- the image after a repair was broken off, of which the mask says which stores were made; then begun again and broken off again, and so on
abbrev pub broken_off : List ℕ → List (List Bool) → List ℕ
broken_off img [] = img
broken_off img (w ∷ ws) = broken_off (stored img (chosen w (repair_stores img (last_track img) (per_track img)))) ws

-- the two images have the same 256 bytes in sector k
abbrev pub SameSector : ℕ → List ℕ → List ℕ → Type 0
SameSector k a b = part a (256 * k) 256 ≡ part b (256 * k) 256

-- ---- what is left

-- the bytes that the file in slot s gives, 252 a sector
abbrev pub bytes_of : Machine → List ℕ → ℕ → List ℕ
bytes_of x img s = flat (λ d. d) (contents img (chain_of x img s))

-- the address that follows these first sectors of the file in slot s: the link of the last, or its start where there are none
abbrev pub next_of : Machine → ℕ → List ℕ → ℕ
next_of x s [] = start_at x.img (place_in x s)
next_of x s (k ∷ ks) = link_of x.img (last_of ks k)

-- after the repair sector k is that of a file, up to slot s
pub record KeptUpTo (σ : Service) (x : Machine) (s k : ℕ) : Type 0 where
  pub slot : ℕ
  pub upto : slot ≤ s
  pub file : LiveFile x slot
  pub has : member k (chain_of x (mended σ x).img slot) ≡ true

-- the sectors of the free chain; and of all live files together
abbrev pub free_of : Machine → List ℕ → List ℕ
free_of x img = chain_at (per_track_of x) img 541

abbrev pub files_of : Machine → List ℕ → List ℕ
files_of x img = flat (sectors_at (per_track_of x) img) (slots_in x img)

-- each is less than all behind it
abbrev pub Rises : List ℕ → Type 0
Rises [] = Unit {0}
Rises (k ∷ l) = ((j : ℕ) → member j l ≡ true → k < j) × Rises l

-- ---- REPAIRED

pub record Repaired (σ : Service) (x : Machine) : Type 0 where
  -- "The census then accepts": it is a start, from which demands 2 and 3 speak
  pub begins : Start (mended σ x)
  -- "a file sharing nothing and rightly chained keeps every byte"; so does one that is rightly chained and of which no earlier file keeps a sector; and
  -- on an image that the census accepts every file
  pub spares : (s : ℕ) → LiveFile x s → RightlyChained x s → SharesNothing x s → AsItWas x (mended σ x).img s
  pub spares_first : (s : ℕ) → LiveFile x s → RightlyChained x s → TakenByNone x s → AsItWas x (mended σ x).img s
  pub spares_all : Start x → (s : ℕ) → LiveFile x s → AsItWas x (mended σ x).img s
  -- "each live file keeps the longest start of its chain": its sectors are a start of those that it had, and its bytes of those that it gave
  pub cuts : (s : ℕ) → LiveFile x s → Begins (chain_of x (mended σ x).img s) (chain_of x x.img s) × Begins (bytes_of x (mended σ x).img s) (bytes_of x x.img s)
  -- "the longest start .. that stays on data sectors, meets no sector already kept or held by the directory, and is no longer than its stated size": where
  -- a file has fewer sectors than it stated, the next would be no data sector, or the directory's, or is kept by an earlier file or by this one
  pub longest : (s : ℕ) → LiveFile x s → length (chain_of x (mended σ x).img s) < size_at x.img (place_in x s)
      → is_data (last_track_of x) (per_track_of x) (next_of x s (chain_of x (mended σ x).img s)) ≡ true
      → (member (index (per_track_of x) (next_of x s (chain_of x (mended σ x).img s))) (sectors_in x x.img) ≡ true)
      ⊎ KeptUpTo σ x s (index (per_track_of x) (next_of x s (chain_of x (mended σ x).img s)))
  -- "all other data sectors form the free chain in rising order": those of no file and not of the directory
  pub frees : (k : ℕ) → per_track_of x ≤ k → k < (last_track_of x + 1) * per_track_of x
      → member k (free_of x (mended σ x).img) ≡ not (member k (files_of x (mended σ x).img ++ sectors_in x (mended σ x).img))
  pub rising : Rises (free_of x (mended σ x).img)
  -- "no other byte changes"
  pub touches : (p : ℕ) → mends x p ≡ false → byte_at (mended σ x).img p ≡ byte_at x.img p
  -- a second repair changes nothing; one that was broken off after any of its stores, whichever of them were made, and however often, is made good by the
  -- next; so is one whose image was copied in part, some sectors and no others
  pub again : σ.repair (mended σ x).img x.tab ≡ told 0 (mended σ x).img
  pub resumes : (ws : List (List Bool)) (tab : List ℕ) → length tab ≡ 2560 → Closed tab → σ.repair (broken_off x.img ws) tab ≡ told 0 (mended σ x).img
  pub recopies : (img tab : List ℕ) → length img ≡ length x.img → ((k : ℕ) → SameSector k img x.img ⊎ SameSector k img (mended σ x).img)
      → length tab ≡ 2560 → Closed tab → σ.repair img tab ≡ told 0 (mended σ x).img

pub record FromRepair (σ : Service) : Type 0 where
  -- "with all FCBs closed ..; it needs shape, directory and names right": and no more
  pub accepts : (x : Machine) → length x.tab ≡ 2560 → Closed x.tab → shape_right x.img ≡ true
      → directory_right x.img (last_track_of x) (per_track_of x) ≡ true → twins x.img (slots_in x x.img) ≡ false → repairs σ x ≡ 0
  -- of every image of bytes
  pub repaired : (x : Machine) → Small x.img → repairs σ x ≡ 0 → Repaired σ x
