-- No second outcome fits the promise of a public function of this crate.
use Rattle.std.specs.Prelude.{◌≡◌, refl, List, [], ◌∷◌, ◌++◌, ℕ, Option, Some, None}
use Rattle.std.specs.Iterator.{YieldsFirst}
use Rattle.std.proofs.Common.{sym, ◌∙◌}
use Rattle.rules.specs.Bytes.{part, over, one, two, same}
use Rattle.rules.specs.Stores.{stored}
use Rattle.rules.specs.Transfer.{mark}
use Rattle.rules.specs.Directory.{next_of, most_of_directory, directory_right, directory, slots, live, find, vacancy, placed, place_of}
use Rattle.laws.specs.Tests.{clash}
use Rattle.laws.specs.Single.{Single, single}
use Rattle.laws.specs.Visits.{step_slot, most_slots}
use Rattle.directory.specs.Extents.{extent_of}
use Rattle.directory.specs.Walks.{sectors_left, slots_left}
use Rattle.directory.specs.declared.SectorWalk.{SectorWalk}
use Rattle.directory.specs.declared.SlotWalk.{SlotWalk}

pub next-of-single : (img : List ℕ) (M S k : ℕ) → Single (next_of img M S k)
next-of-single img M S k = single (next_of img M S k)

pub most-of-single : (M S : ℕ) → Single (most_of_directory M S)
most-of-single M S = single (most_of_directory M S)

pub most-slots-single : (M S : ℕ) → Single (most_slots M S)
most-slots-single M S = single (most_slots M S)

pub sectors-single : (img : List ℕ) (M S : ℕ) → Single (directory img M S)
sectors-single img M S = single (directory img M S)

pub slots-single : (img : List ℕ) (M S : ℕ) → Single (slots img M S)
slots-single img M S = single (slots img M S)

-- what an iterator gives, and what it has left then, by what it had left
left-single : {A S : Type 0} (rest : S → List A) (s t t' : S) (x y : Option A) → YieldsFirst rest s x t → YieldsFirst rest s y t' → (x ≡ y) × (rest t ≡ rest t')
left-single rest s t t' (Some a) (Some b) h k = (cc, cc)
left-single rest s t t' (Some a) None h k =
    let z : a ∷ rest t ≡ [] = sym h ∙ k.0 in
    clash (cc)
left-single rest s t t' None (Some b) h k =
    let z : b ∷ rest t' ≡ [] = sym k ∙ h.0 in
    clash (cc)
left-single rest s t t' None None h k = (refl, h.1 ∙ sym k.1)

pub next-sector-single : (s t t' : SectorWalk) (x y : Option ℕ) → YieldsFirst sectors_left s x t → YieldsFirst sectors_left s y t' → (x ≡ y) × (sectors_left t ≡ sectors_left t')
next-sector-single s t t' x y h k = left-single sectors_left s t t' x y h k

pub next-slot-single : (s t t' : SlotWalk) (x y : Option ℕ) → YieldsFirst slots_left s x t → YieldsFirst slots_left s y t' → (x ≡ y) × (slots_left t ≡ slots_left t')
next-slot-single s t t' x y h k = left-single slots_left s t t' x y h k

pub directory-right-single : (img : List ℕ) (M S : ℕ) → Single (directory_right img M S)
directory-right-single img M S = single (directory_right img M S)

pub extent-of-single : (img : List ℕ) (M S : ℕ) → Single (extent_of img M S)
extent-of-single img M S = single (extent_of img M S)

pub is-live-single : (img : List ℕ) (slot : ℕ) → Single (live img slot)
is-live-single img slot = single (live img slot)

pub same-name-single : (img : List ℕ) (slot : ℕ) (tab : List ℕ) (at : ℕ) → Single (same (part img slot 11) (part tab at 11))
same-name-single img slot tab at = single (same (part img slot 11) (part tab at 11))

pub find-single : (img : List ℕ) (M S : ℕ) (tab : List ℕ) (at : ℕ) → Single (find img M S (part tab at 11))
find-single img M S tab at = single (find img M S (part tab at 11))

pub vacancy-single : (img : List ℕ) (M S : ℕ) → Single (vacancy img M S)
vacancy-single img M S = single (vacancy img M S)

pub placed-single : (img : List ℕ) (M S a d : ℕ) → Single (placed img M S (two a ++ one d))
placed-single img M S a d = single (placed img M S (two a ++ one d))

pub step-slot-single : (img : List ℕ) (M S slot : ℕ) → Single (step_slot img M S slot)
step-slot-single img M S slot = single (step_slot img M S slot)

pub put-place-single : (tab : List ℕ) (at S slot : ℕ) → Single (over tab at (place_of S slot))
put-place-single tab at S slot = single (over tab at (place_of S slot))

pub mark-single : (img : List ℕ) (slot : ℕ) → Single (stored img (mark slot))
mark-single img slot = single (stored img (mark slot))
