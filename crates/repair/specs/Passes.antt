-- Repair as the code makes it, IN the image: marks, one number a data sector, where rules has the list of sectors that are held; each file read from the
-- image as the files before it left it; the free chain linked from the last sector down.
use Rattle.std.specs.Prelude.{Bool, false, List, [], ◌∷◌, ◌++◌, ℕ, zero, suc, ◌+◌, ◌*◌, get_or, eqb, ltb}
use Rattle.rules.specs.Bytes.{pick, over, one, six}
use Rattle.rules.specs.Stores.{stored}
use Rattle.rules.specs.Image.{index, address_of, is_data, data_number, link_of, info_sector, info_first}
use Rattle.rules.specs.Directory.{directory_right, slots, live, start_in_slot, start_at, size_at, map_at}
use Rattle.rules.specs.Transfer.{linked}
use Rattle.rules.specs.Outcome.{Told, told}
use Rattle.rules.specs.Census.{unless, when, twins}
use Rattle.rules.specs.Repair.{mended}
use Rattle.laws.specs.Visits.{step_slot, on_there}
use Rattle.disk.specs.declared.Free.{Free}
use Rattle.repair.specs.declared.Kept.{Kept}

-- ---- marks

-- a sector's mark set, if it is a data sector; and those of all of these
unfoldable pub with_mark : ℕ → ℕ → List ℕ → List ℕ
with_mark S k ms = pick (ltb k S) ms (over ms (data_number S k) (one 1))

unfoldable pub with_marks : ℕ → List ℕ → List ℕ → List ℕ
with_marks S [] ms = ms
with_marks S (k ∷ ks) ms = with_marks S ks (with_mark S k ms)

-- the address is that of a data sector without a mark
unfoldable pub is_open : ℕ → ℕ → List ℕ → ℕ → Bool
is_open M S ms a = pick (is_data M S a) (eqb (get_or ms (data_number S (index S a)) 0) 0) false

-- ---- what a file keeps

-- the last sector's address and how many there are, and the marks then
pub data Walked : Type 0 where
  walked : Kept → List ℕ → Walked

abbrev pub on_walked : {A : Type 0} → Walked → (Kept → List ℕ → A) → A
on_walked (walked k ms) f = f k ms

-- from the address a on, n sectors at most, where c were kept before, of which e is the last
unfoldable pub walk : List ℕ → ℕ → ℕ → ℕ → ℕ → ℕ → ℕ → List ℕ → Walked
walk img M S zero a e c ms = walked (record { end = e; count = c }) ms
walk img M S (suc n) a e c ms =
    pick (is_open M S ms a)
    (walk img M S n (link_of img (index S a)) a (c + 1) (with_mark S (index S a) ms))
    (walked (record { end = e; count = c }) ms)

-- ---- files, in the image

-- a slot of which start and size were loaded: its seven bytes, and the last link
unfoldable pub slot_mended : List ℕ → ℕ → ℕ → ℕ → ℕ → Kept → List ℕ
slot_mended img S slot start size k =
    stored
    (over img (slot + start_in_slot)
    (six (pick (eqb k.count 0) 0 start) k.end k.count ++ one (pick (ltb k.count size) 0 (map_at img slot))))
    (linked (eqb k.count 0) (index S k.end) 0)

-- image and marks
pub data Worked : Type 0 where
  worked : List ℕ → List ℕ → Worked

abbrev pub on_worked : {A : Type 0} → Worked → (List ℕ → List ℕ → A) → A
on_worked (worked img ms) f = f img ms

unfoldable pub file_mended : List ℕ → ℕ → ℕ → ℕ → List ℕ → Worked
file_mended img M S slot ms =
    pick (live img slot)
    (on_walked (walk img M S (size_at img slot) (start_at img slot) 0 0 ms) (λ k ms'. worked (slot_mended img S slot (start_at img slot) (size_at img slot) k) ms'))
    (worked img ms)

-- from the slot o on, n at most: the way to the next goes by the image as it is then
unfoldable pub files_mended : ℕ → ℕ → ℕ → ℕ → List ℕ → List ℕ → Worked
files_mended M S zero o img ms = worked img ms
files_mended M S (suc n) o img ms =
    on_worked (file_mended img M S o ms) (λ img' ms'. on_there (step_slot img' M S o) (worked img' ms') (λ p. files_mended M S n p img' ms'))

-- ---- the free chain

pub data Chained : Type 0 where
  chained : Free → List ℕ → Chained

abbrev pub on_chained : {A : Type 0} → Chained → (Free → List ℕ → A) → A
on_chained (chained f img) g = g f img

-- the sector k put before a chain
unfoldable pub before : ℕ → ℕ → Free → List ℕ → Chained
before S k f img =
    chained (record { first = address_of S k; last = pick (eqb f.count 0) (address_of S k) f.last; count = f.count + 1 })
    (stored img (linked false k f.first))

-- the data sector with the number n put before it, if it has no mark
unfoldable pub in_front : ℕ → List ℕ → ℕ → Free → List ℕ → Chained
in_front S ms n f img = pick (eqb (get_or ms n 0) 0) (before S (S + n) f img) (chained f img)

-- those of the first n data sectors that have no mark, the last first
unfoldable pub chaining : ℕ → List ℕ → ℕ → Free → List ℕ → Chained
chaining S ms zero f img = chained f img
chaining S ms (suc n) f img = on_chained (in_front S ms n f img) (λ f' img'. chaining S ms n f' img')

abbrev pub no_free : Free
no_free = record { first = 0; last = 0; count = 0 }

unfoldable pub free_mended : ℕ → ℕ → List ℕ → List ℕ → List ℕ
free_mended M S ms img =
    on_chained (chaining S ms (M * S) no_free img)
    (λ f img'. over img' (256 * info_sector + info_first) (six f.first f.last f.count))

-- ---- 42 and 43, and then all of it

unfoldable pub tried : List ℕ → ℕ → ℕ → Told
tried img M S =
    unless (directory_right img M S) (told 42 img)
    (when (twins img (slots img M S)) (told 43 img)
    (told 0 (mended img M S)))
