-- Raw writing and repair: no fake meets the demands, ours passes where each fails. The diskettes are the start with three files, damaged in four
-- ways: B.DAT runs into the last sector of A.TXT; first free is a sector of track 0; A.TXT runs on to an address that no sector has; B.DAT is a random file
-- with a sector too few.
use Rattle.std.specs.Prelude.{◌≡◌, refl, ◌≢◌, Bool, true, false, List, [], ◌∷◌, ℕ, zero, suc, ◌<◌, eqb, length, get_or, replicate}
use Rattle.std.proofs.Common.{sym, ap, ◌∙◌, arith, ne_eqb, eqb-true}
use Rattle.std.proofs.Math.Decide.{ℕ_discrete}
use Rattle.rules.specs.Bytes.{pick, part, byte_at, over, one, zeros}
use Rattle.rules.specs.Directory.{live, member}
use Rattle.rules.specs.Outcome.{told as replied, says_of, left_of}
use Rattle.rules.specs.All.{rules}
use Rattle.laws.specs.Tests.{never, both, either}
use Rattle.laws.specs.Small.{Small, small_one, small-over}
use Rattle.demands.specs.Ledger.{Call, setting, asking}
use Rattle.demands.specs.Service.{flex, ans_of, img_of, Machine, answers, run, log}
use Rattle.demands.specs.History.{Plain, shown}
use Rattle.demands.specs.Demands.{survey_answer, sectors_in, slots_in, place_in, chain_of, AsItWas, Start, told, past, Sound, Again, Demand1}
use Rattle.demands.specs.Repairs.{repairs, mended, LiveFile, Has, SharesNothing, kept_of, TakenByNone, in_record, free_of, FromRepair, reach_of}
use Rattle.demands.specs.Fakes.{shamming, straying, narrow, emptying, pretending, favouring, adopting, turning, scrubbing, maps_left, mapping, barging, shirking}
use Rattle.met.proofs.Mends.{from-repair}
use Rattle.met.specs.Joins.{again}
use Rattle.met.proofs.Second.{demand2}
use Rattle.met.proofs.Third.{demand3}
use Rattle.refuted.specs.All.{demands}
use Rattle.refuted.specs.Pair.{b_dat, b_dat_at, below, small-below, closed-eight, pair_image, pair, pair-start, paired}
use Rattle.refuted.specs.Run.{outcomes}
use Rattle.refuted.specs.AnyBytes.{differ, Both}

-- ---- RAW WRITING, on the start: block 3 lists, and one slot was shown; block 4 is idle, its buffer is 204 all over

-- block 3 asks for function 8 and B.DAT's place; the slot's bytes begin with 90
abbrev putting_table : List ℕ
putting_table = over (over (over (over pair.tab 960 (one 8)) 962 (one 16)) 964 (one 90)) 1007 (0 ∷ 5 ∷ 136 ∷ [])

-- `does`: A.TXT's slot is not named
pub straying-fails : Demand1 straying → ⊥
unfolding rules demands paired
straying-fails d = differ 90 65 refl (ap (λ o. byte_at (img_of o) 1040) (d.does pair_image putting_table 3 0))

pub straying-ours : (byte_at (img_of (flex.call pair_image putting_table 3 0)) 1040 ≡ 65) × (byte_at (img_of (flex.call pair_image putting_table 3 0)) b_dat_at ≡ 90)
unfolding rules demands paired
straying-ours = (refl, refl)

-- block 4 asks for function 10, at 1,5: sector 9
abbrev sending_table : List ℕ
sending_table = over pair.tab 1280 (one 10)

-- `does`: byte 10 of the sector
pub shamming-fails : Demand1 shamming → ⊥
unfolding rules demands paired
shamming-fails d = differ 0 204 refl (ap (λ o. byte_at (img_of o) 2314) (d.does pair_image sending_table 4 0))

pub shamming-ours : (ans_of (shamming.call pair_image sending_table 4 0) ≡ 0) × (byte_at (img_of (flex.call pair_image sending_table 4 0)) 2314 ≡ 204)
unfolding rules demands paired
shamming-ours = (refl, refl)

-- `preset`: byte 64 of block 0
pub narrow-fails : Demand1 narrow → ⊥
unfolding rules
narrow-fails d = differ 18 0 refl (ap says_of (d.preset (zeros 2560) 0 64 7))

pub narrow-ours : says_of (flex.preset (zeros 2560) 0 64 7) ≡ 0
unfolding rules
narrow-ours = refl

-- ---- DAMAGED DISKETTES

-- B.DAT states two sectors, its own and behind it 1,1, which is A.TXT's last: both are rightly chained, and the census gives 46
abbrev shared : Machine
shared = record { img = over (over pair_image 1173 (1 ∷ 4 ∷ 1 ∷ 1 ∷ 0 ∷ 2 ∷ [])) 2048 (1 ∷ 1 ∷ []); tab = pair.tab }

-- first free is 0,2, and the census gives 44
abbrev strayed : Machine
strayed = record { img = over pair_image 541 (one 0); tab = pair.tab }

-- A.TXT states three sectors, and the link of its second is 0,9: no such sector, but counted on it would be B.DAT's. The census gives 45
abbrev nonsense : Machine
nonsense = record { img = over (over pair_image 1058 (one 3)) 1281 (one 9); tab = pair.tab }

shared-small : Small shared.img
unfolding pair below
shared-small =
    small-over (over pair_image 1173 (1 ∷ 4 ∷ 1 ∷ 1 ∷ 0 ∷ 2 ∷ [])) 2048 (1 ∷ 1 ∷ [])
    (small-over pair_image 1173 (1 ∷ 4 ∷ 1 ∷ 1 ∷ 0 ∷ 2 ∷ []) pair-start.bytes (small-below (1 ∷ 4 ∷ 1 ∷ 1 ∷ 0 ∷ 2 ∷ []) refl)) (small-below (1 ∷ 1 ∷ []) refl)

strayed-small : Small strayed.img
unfolding pair
strayed-small = small-over pair_image 541 (one 0) pair-start.bytes (small_one 0 (omega arith))

nonsense-small : Small nonsense.img
unfolding pair
nonsense-small =
    small-over (over pair_image 1058 (one 3)) 1281 (one 9) (small-over pair_image 1058 (one 3) pair-start.bytes (small_one 3 (omega arith))) (small_one 9 (omega arith))

-- the census's number, of an image
abbrev pub number : List ℕ → ℕ
number img = survey_answer (flex.census img (zeros 5) (zeros 5))

-- ---- what is asked of a file there

-- no member of the one list is in the other: computed
apart : List ℕ → List ℕ → Bool
apart [] ls = true
apart (k ∷ ks) ls = pick (member k ls) false (apart ks ls)

apart-is : (ks ls : List ℕ) → apart ks ls ≡ true → (k : ℕ) → member k ks ≡ true → member k ls ≡ false
unfolding apart member
apart-is [] ls h k m = absurd (never m)
apart-is (j ∷ ks) ls h k m = go (member j ls) refl h (λ a b. apart-is ks ls a k b)
  where
    go : (u : Bool) → member j ls ≡ u → pick u false (apart ks ls) ≡ true → (apart ks ls ≡ true → member k ks ≡ true → member k ls ≡ false) → member k ls ≡ false
    go true e h ih = absurd (never h)
    go false e h ih = either (eqb j k) (member k ks) m (λ q. ap (λ (i : ℕ). member i ls) (sym (eqb-true j k q)) ∙ e) (ih h)

-- nor does one of the first n slots but s reach one
alone : Machine → ℕ → ℕ → Bool
alone x s zero = true
alone x s (suc t) = pick (pick (eqb t s) true (pick (live x.img (place_in x t)) (apart (chain_of x x.img s) (reach_of x t)) true)) (alone x s t) false

alone-is : (x : Machine) (s n : ℕ) → alone x s n ≡ true → (t : ℕ) → t < n → t ≢ s → LiveFile x t → apart (chain_of x x.img s) (reach_of x t) ≡ true
unfolding alone
alone-is x s zero h t b ne f = absurd (omega arith)
alone-is x s (suc n) h t b ne f = go (both _ (alone x s n) h) (λ k l. alone-is x s n k t l ne f) (ℕ_discrete t n)
  where
    go : (pick (eqb n s) true (pick (live x.img (place_in x n)) (apart (chain_of x x.img s) (reach_of x n)) true) ≡ true) × (alone x s n ≡ true)
        → (alone x s n ≡ true → t < n → apart (chain_of x x.img s) (reach_of x t) ≡ true) → Dec (t ≡ n)
        → apart (chain_of x x.img s) (reach_of x t) ≡ true
    go p ih (no e) = ih p.1 (omega arith)
    go p ih (yes e) =
        let v : live x.img (place_in x n) ≡ true = ap (λ (k : ℕ). live x.img (place_in x k)) (sym e) ∙ f.alive in
        ap (λ (k : ℕ). apart (chain_of x x.img s) (reach_of x k)) e ∙ (rw (ne_eqb n s (λ q. ne (e ∙ q)), v) at p.0)

shares-nothing : (x : Machine) (s : ℕ) → apart (chain_of x x.img s) (sectors_in x x.img) ≡ true → alone x s (length (slots_in x x.img)) ≡ true → SharesNothing x s
shares-nothing x s d a = record {
  directory = apart-is (chain_of x x.img s) (sectors_in x x.img) d;
  files = λ t k ne f. apart-is (chain_of x x.img s) (reach_of x t) (alone-is x s (length (slots_in x x.img)) a t f.slot ne f) k;
}

-- nor in what one of the first n slots keeps
untaken : Machine → ℕ → ℕ → Bool
untaken x s zero = true
untaken x s (suc t) = pick (apart (chain_of x x.img s) (kept_of x t)) (untaken x s t) false

untaken-is : (x : Machine) (s n : ℕ) → untaken x s n ≡ true → (t : ℕ) → t < n → apart (chain_of x x.img s) (kept_of x t) ≡ true
unfolding untaken
untaken-is x s zero h t b = absurd (omega arith)
untaken-is x s (suc n) h t b = go (both _ (untaken x s n) h) (λ k l. untaken-is x s n k t l) (ℕ_discrete t n)
  where
    go : (apart (chain_of x x.img s) (kept_of x n) ≡ true) × (untaken x s n ≡ true)
        → (untaken x s n ≡ true → t < n → apart (chain_of x x.img s) (kept_of x t) ≡ true) → Dec (t ≡ n) → apart (chain_of x x.img s) (kept_of x t) ≡ true
    go p ih (no e) = ih p.1 (omega arith)
    go p ih (yes e) = ap (λ (k : ℕ). apart (chain_of x x.img s) (kept_of x k)) e ∙ p.0

taken-by-none : (x : Machine) (s : ℕ) → apart (chain_of x x.img s) (sectors_in x x.img) ≡ true → untaken x s s ≡ true → TakenByNone x s
taken-by-none x s d u = record {
  directory = apart-is (chain_of x x.img s) (sectors_in x x.img) d;
  earlier = λ t k b h. apart-is (chain_of x x.img s) (kept_of x t) (untaken-is x s s u t b) k h;
}

-- ---- REPAIR: A.TXT's slot is the first; byte 18 of it is the low byte of its size

abbrev size_byte : List ℕ → ℕ
size_byte img = byte_at (part img 1040 24) 18

-- `spares`: A.TXT is rightly chained and shares nothing; the census accepts what the fake leaves
pub emptying-fails : FromRepair emptying → ⊥
unfolding rules demands paired in_record apart alone
emptying-fails d =
    differ 0 2 refl
    (ap (λ (m : List ℕ). byte_at m 18)
    ((d.repaired strayed strayed-small refl).spares 0 (record { slot = omega arith; alive = refl }) refl (shares-nothing strayed 0 refl refl)).slot)

pub emptying-ours : Both (size_byte (mended flex strayed).img) (size_byte strayed.img) 2 × (number (mended emptying strayed).img ≡ 0)
unfolding rules demands paired
emptying-ours = ((refl, refl), refl)

-- `begins`: the census still gives 46
pub pretending-fails : FromRepair pretending → ⊥
unfolding rules demands paired
pretending-fails d = differ 46 0 refl (d.repaired shared shared-small refl).begins.accepted

pub pretending-ours : (number shared.img ≡ 46) × (number (mended flex shared).img ≡ 0)
unfolding rules demands paired
pretending-ours = (refl, refl)

-- `spares_first`: A.TXT is rightly chained, and no file stands before it; the census accepts what the fake leaves
pub favouring-fails : FromRepair favouring → ⊥
unfolding rules demands paired apart untaken
favouring-fails d =
    differ 1 2 refl
    (ap (λ (m : List ℕ). byte_at m 18)
    ((d.repaired shared shared-small refl).spares_first 0 (record { slot = omega arith; alive = refl }) refl (taken-by-none shared 0 refl refl)).slot)

pub favouring-ours : Both (size_byte (mended flex shared).img) (size_byte shared.img) 2 × (number (mended favouring shared).img ≡ 0)
unfolding rules demands paired
favouring-ours = ((refl, refl), refl)

-- `touches`: a byte of sector 6, which is free
pub scrubbing-fails : FromRepair scrubbing → ⊥
unfolding rules demands paired in_record
scrubbing-fails d = differ 0 88 refl ((d.repaired shared shared-small refl).touches 1540 refl)

pub scrubbing-ours : Both (byte_at (mended flex shared).img 1540) (byte_at shared.img 1540) 88
unfolding rules demands paired
scrubbing-ours = (refl, refl)

-- `cuts`: the second sector of B.DAT was A.TXT's last, 5, and is now 6, which was free; the census accepts what the fake leaves
pub adopting-fails : FromRepair adopting → ⊥
unfolding rules demands paired
adopting-fails d =
    differ 5 6 refl
    (ap (λ (l : List ℕ). get_or l 1 0) ((d.repaired shared shared-small refl).cuts b_dat (record { slot = omega arith; alive = refl })).0)

pub adopting-ours : (chain_of shared (mended flex shared).img b_dat ≡ 8 ∷ []) × (number (mended adopting shared).img ≡ 0)
unfolding rules demands paired
adopting-ours = (refl, refl)

-- `again`: first free is 1,5 after the first repair, and 1,2 after the second; `rising`: 9 before 6; the census accepts what the fake leaves
pub turning-fails : FromRepair turning → ⊥
unfolding rules demands paired
turning-fails d = differ 2 5 refl (ap (λ r. byte_at (left_of r) 542) (d.repaired shared shared-small refl).again)

pub turning-fails-too : FromRepair turning → ⊥
unfolding rules demands paired
turning-fails-too d = let b : 9 < 6 = (d.repaired shared shared-small refl).rising.0 6 refl in absurd (omega (arith, b))

pub turning-ours : (free_of shared (mended flex shared).img ≡ 6 ∷ 9 ∷ []) × (number (mended turning shared).img ≡ 0)
unfolding rules demands paired
turning-ours = (refl, refl)

-- B.DAT is a random file (byte 23 is 1) that states two sectors, and has one
abbrev random_cut : Machine
random_cut = record { img = over (over pair_image 1178 (one 2)) 1179 (one 1); tab = pair.tab }

random_cut-small : Small random_cut.img
unfolding pair
random_cut-small = small-over (over pair_image 1178 (one 2)) 1179 (one 1) (small-over pair_image 1178 (one 2) pair-start.bytes (small_one 2 (omega arith))) (small_one 1 (omega arith))

-- `repair`, of demand 1; `resumes`: a repair that was broken off behind its last store, and is made again, leaves 1 there
pub mapping-fails : Demand1 mapping → ⊥
unfolding rules demands paired maps_left
mapping-fails d = differ 1 0 refl (ap (λ r. byte_at (left_of r) 1179) (d.repair random_cut.img pair.tab))

pub mapping-fails-too : FromRepair mapping → ⊥
unfolding rules demands paired maps_left
mapping-fails-too d = differ 0 1 refl (ap (λ r. byte_at (left_of r) 1179) ((d.repaired random_cut random_cut-small refl).resumes (replicate 9 true ∷ []) pair.tab refl pair-start.closed))

pub mapping-ours : byte_at (mended flex random_cut).img 1179 ≡ 0
unfolding rules demands paired
mapping-ours = refl

-- `accepts`: shape, directory and names are right, a file's chain is not
pub shirking-fails : FromRepair shirking → ⊥
unfolding rules demands paired
shirking-fails d = differ 42 0 refl (d.accepts nonsense refl pair-start.closed refl refl refl)

nonsense-repaired : repairs flex nonsense ≡ 0
unfolding rules demands paired
nonsense-repaired = refl

pub shirking-ours : (repairs flex nonsense ≡ 0) × (number nonsense.img ≡ 45)
unfolding rules demands paired
shirking-ours = (nonsense-repaired, refl)

-- a file behind a damaged one: counted on from the nonsense in a link A.TXT has B.DAT's sector too, but it neither reaches nor keeps it, and B.DAT is as it
-- was
pub nonsense-both : Has nonsense 0 8 × Has nonsense b_dat 8 × (reach_of nonsense 0 ≡ 7 ∷ 5 ∷ []) × (kept_of nonsense 0 ≡ 7 ∷ 5 ∷ [])
unfolding rules demands paired
nonsense-both = (refl, refl, refl, refl)

pub nonsense-spares : AsItWas nonsense (mended flex nonsense).img b_dat
unfolding rules demands paired apart untaken
nonsense-spares =
    (from-repair.repaired nonsense nonsense-small nonsense-repaired).spares_first b_dat (record { slot = omega arith; alive = refl }) refl (taken-by-none nonsense b_dat refl refl)

-- `repair`, of demand 1: block 1 reads
abbrev open_table : List ℕ
open_table = over (zeros 2560) 322 (one 1)

pub barging-fails : Demand1 barging → ⊥
unfolding rules demands paired
barging-fails d = differ 0 2 refl (ap says_of (d.repair pair_image open_table))

pub barging-ours : flex.repair pair_image open_table ≡ replied 2 pair_image
unfolding rules demands paired
barging-ours = refl

-- ---- WHERE THE DEMANDS SPEAK AGAIN

-- raw writing that leaves a start: block 3 lists, takes the protection off the first slot, A.TXT's, and closes
unfoldable pub unprotect : List Call
unprotect = asking 3 0 ∷ setting 3 0 7 ∷ asking 3 0 ∷ setting 3 15 0 ∷ setting 3 0 8 ∷ asking 3 0 ∷ setting 3 0 4 ∷ asking 3 0 ∷ []

-- then block 7 deletes A.TXT
unfoldable pub delete : List Call
delete = asking 7 0 ∷ []

-- the raw write is the sixth call, and accepted: of the eight together demands 2 and 3 say nothing
pub unprotect-raw : outcomes (log flex pair unprotect) ≡ (0, 0) ∷ (0, 0) ∷ (0, 0) ∷ (0, 0) ∷ (0, 0) ∷ (0, 0) ∷ (0, 0) ∷ (0, 0) ∷ []
unfolding rules demands paired unprotect
unprotect-raw = refl

unprotect-start : Start (run flex pair unprotect)
unfolding rules demands paired unprotect below
unprotect-start = record { accepted = refl; bytes = small-below (run flex pair unprotect).img refl; table = refl; closed = closed-eight (run flex pair unprotect).tab refl }

delete-plain : Plain (past flex (run flex pair unprotect) delete)
unfolding rules demands paired unprotect delete
delete-plain = (refl, tt)

-- they speak of the delete, which was refused before, and of the list of nine calls
pub unprotect-again : Again flex pair unprotect delete
unprotect-again = again flex demand2 demand3 pair unprotect delete unprotect-start delete-plain

pub unprotect-deletes : (answers flex pair (asking 7 0) ≡ 11) × (answers flex (run flex pair unprotect) (asking 7 0) ≡ 0) × (length (shown (told flex (run flex pair unprotect) delete)) ≡ 2)
unfolding rules demands paired unprotect delete
unprotect-deletes = (refl, refl, refl)

-- and after a repair: block 1 opens B.DAT, which was cut, and reads a byte of it
unfoldable pub read : List Call
read = asking 1 0 ∷ asking 1 0 ∷ []

shared-repaired : repairs flex shared ≡ 0
unfolding rules demands paired
shared-repaired = refl

pub mended-start : Start (mended flex shared)
mended-start = (from-repair.repaired shared shared-small shared-repaired).begins

read_plain : Plain (past flex (mended flex shared) read)
unfolding rules demands paired read
read_plain = (refl, (refl, tt))

pub mended-sound : Sound flex (mended flex shared) read
mended-sound = demand3 (mended flex shared) mended-start read read_plain

pub mended-reads : outcomes (log flex (mended flex shared) read) ≡ (0, 0) ∷ (0, 30) ∷ []
unfolding rules demands paired read
mended-reads = refl
