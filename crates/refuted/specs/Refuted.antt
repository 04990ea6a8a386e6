-- Fakes that demands 2 and 3 refute. Each is run on the start with three files, and a clause gives an equation of two numbers that differ; beside it, that
-- ours passes the same clause at the same point.
use Rattle.std.specs.Prelude.{◌≡◌, refl, true, List, [], ◌∷◌, ℕ, length, get_or}
use Rattle.std.proofs.Common.{ap, arith}
use Rattle.rules.specs.Bytes.{part, byte_at, zeros}
use Rattle.rules.specs.Directory.{never_used, live, size_at}
use Rattle.rules.specs.Outcome.{Out, says_of}
use Rattle.rules.specs.Census.{Survey, survey}
use Rattle.rules.specs.All.{rules}
use Rattle.demands.specs.Ledger.{Call, setting, asking, file, entry_of, image_of, table_of, fate, reply}
use Rattle.demands.specs.Diskette.{ledger_numbers, ledger_owners}
use Rattle.demands.specs.Service.{Service, flex, answers, gave, next, run}
use Rattle.demands.specs.History.{Plain}
use Rattle.demands.specs.Demands.{survey_answer, begun, told, past, sectors_in, wholly, Demand2, Demand3, ReadBack, Created}
use Rattle.demands.specs.Fakes.{with_call, refusing, deaf, idling, stuck, nodding, eager, counting, inventing, meddling, deleting, mislisting, scrambling, stingy, swapping, booting, misplacing, stopping, heedless, guarding, sealing, balking, smudging, detaching, returning, masking}
use Rattle.refuted.specs.All.{demands}
use Rattle.refuted.specs.AnyBytes.{differ, Both}
use Rattle.refuted.specs.Pair.{b_dat, b_dat_at, gap_at, pair, pair-start, full, full_start, paired}

-- ---- demand 2: block 0 makes C.TXT

-- `presets`
pub refusing-fails : Demand2 refusing → ⊥
unfolding rules demands paired
refusing-fails d = differ 18 0 refl (ap says_of ((d pair pair-start [] tt).presets 0 4 65))

pub refusing-ours : says_of (flex.preset pair.tab 0 4 65) ≡ 0
unfolding rules paired
refusing-ours = refl

-- `creates`: whatever the call is, the deleted slot is there for C.TXT
created : (f : List ℕ → List ℕ → ℕ → ℕ → Out) → Demand2 (with_call f) → Created (with_call f) 1 5 pair (begun pair) 0 1 0
unfolding rules demands paired
created f d = (d pair pair-start [] tt).creates 0 1 0 (record { block = omega arith; function = refl; drive = refl }) refl refl refl refl

-- `opens`
pub deaf-fails : Demand2 deaf → ⊥
unfolding rules demands paired
deaf-fails d = differ 18 0 refl (created _ d).opens

pub deaf-ours : answers flex pair (asking 0 0) ≡ 0
unfolding rules demands paired
deaf-ours = refl

-- `size`: one sector after one byte, none after none
abbrev size_after : List Call → ℕ
size_after cs = size_at (run flex pair cs).img 1064

pub nodding-fails : Demand2 nodding → ⊥
unfolding rules demands paired
nodding-fails d = differ 0 1 refl ((created _ d).writes (asking 0 7 ∷ []) (refl, tt) ((λ q. refl), tt)).size

pub nodding-ours : size_after (asking 0 0 ∷ asking 0 7 ∷ []) ≡ 1
unfolding rules demands paired
nodding-ours = refl

pub eager-fails : Demand2 eager → ⊥
unfolding rules demands paired
eager-fails d = differ 1 0 refl ((created _ d).writes [] tt tt).size

pub eager-ours : size_after (asking 0 0 ∷ []) ≡ 0
unfolding rules demands paired
eager-ours = refl

-- 7 is sent to C.TXT, block 0 closes
unfoldable pub made : List Call
made = asking 0 0 ∷ asking 0 7 ∷ setting 0 0 4 ∷ asking 0 0 ∷ []

-- `reads`: block 6 opens and reads
stuck_back : Demand2 stuck → ReadBack stuck 1 5 (run stuck pair made) (told stuck pair made) (7 ∷ zeros 251) 6 0
unfolding rules demands paired made
stuck_back d =
    (((created _ d).writes (asking 0 7 ∷ setting 0 0 4 ∷ []) (refl, (refl, tt)) ((λ q. refl), ((λ q. refl), tt))
    ).kept 0 (record { block = omega arith; function = refl; drive = refl }) (omega arith)
    ).back [] tt tt 6 0 (record { block = omega arith; function = refl; drive = refl }) refl refl

pub stuck-fails : Demand2 stuck → ⊥
unfolding rules demands paired made
stuck-fails d = differ 42 7 refl (((stuck_back d).reads (asking 6 0 ∷ []) (refl, tt) ((λ q. refl), tt)).0 refl).1

pub stuck-ours : gave flex (next flex (run flex pair made) (asking 6 0)) (asking 6 0) ≡ 7
unfolding rules demands paired made
stuck-ours = refl

-- `opens`, of the reading: block 6 opens. (The same steps; but what they compute is of the other service.)
sealing-back : Demand2 sealing → ReadBack sealing 1 5 (run sealing pair made) (told sealing pair made) (7 ∷ zeros 251) 6 0
unfolding rules demands paired made
sealing-back d =
    (((created _ d).writes (asking 0 7 ∷ setting 0 0 4 ∷ []) (refl, (refl, tt)) ((λ q. refl), ((λ q. refl), tt))
    ).kept 0 (record { block = omega arith; function = refl; drive = refl }) (omega arith)
    ).back [] tt tt 6 0 (record { block = omega arith; function = refl; drive = refl }) refl refl

pub sealing-fails : Demand2 sealing → ⊥
unfolding rules demands paired made
sealing-fails d = differ 17 0 refl (sealing-back d).opens

pub sealing-ours : answers flex (run flex pair made) (asking 6 0) ≡ 0
unfolding rules demands paired made
sealing-ours = refl

-- `accepts`: D.TXT takes a free sector, the first byte of C.TXT the last one; the second byte needs none
stingy-made : Demand2 stingy → Created stingy 1 5 (run stingy pair (asking 5 0 ∷ asking 5 8 ∷ [])) (told stingy pair (asking 5 0 ∷ asking 5 8 ∷ [])) 0 2 0
unfolding rules demands paired
stingy-made d = (d pair pair-start (asking 5 0 ∷ asking 5 8 ∷ []) (refl, (refl, tt))).creates 0 2 0 (record { block = omega arith; function = refl; drive = refl }) refl refl refl refl

pub stingy-fails : Demand2 stingy → ⊥
unfolding rules demands paired
stingy-fails d = differ 7 0 refl (((stingy-made d).writes (asking 0 7 ∷ asking 0 8 ∷ []) (refl, (refl, tt)) ((λ q. refl), ((λ q. refl), tt))).accepts.1.0 refl refl)

pub stingy-ours : answers flex (run flex pair (asking 5 0 ∷ asking 5 8 ∷ asking 0 0 ∷ asking 0 7 ∷ [])) (asking 0 8) ≡ 0
unfolding rules demands paired
stingy-ours = refl

-- ---- demand 3

-- `answered`: block 7 would delete A.TXT, which is protected; block 0 makes C.TXT
pub idling-fails : Demand3 idling → ⊥
unfolding rules demands paired
idling-fails d = differ 0 11 refl (d pair pair-start (asking 7 0 ∷ []) (refl, tt)).answered.0

pub deaf-fails-too : Demand3 deaf → ⊥
unfolding rules demands paired
deaf-fails-too d = differ 18 0 refl (d pair pair-start (asking 0 0 ∷ []) (refl, tt)).answered.0

pub idling-ours : Both (answers flex pair (asking 7 0)) (reply (fate 1 5 (begun pair) (asking 7 0))) 11
unfolding rules demands paired
idling-ours = (refl, refl)

pub deaf-ours-too : Both (answers flex pair (asking 0 0)) (reply (fate 1 5 (begun pair) (asking 0 0))) 0
unfolding rules demands paired
deaf-ours-too = (refl, refl)

-- and block 1 opens B.DAT, which stands behind a slot that was never used: a start that the census accepts
pub stopping-fails : Demand3 stopping → ⊥
unfolding rules demands paired
stopping-fails d = differ 4 0 refl (d pair pair-start (asking 1 0 ∷ []) (refl, tt)).answered.0

pub stopping-ours : (never_used pair.img gap_at ≡ true) × (live pair.img b_dat_at ≡ true)
    × Both (answers flex pair (asking 1 0)) (reply (fate 1 5 (begun pair) (asking 1 0))) 0
unfolding rules demands paired
stopping-ours = (refl, refl, (refl, refl))

-- block 6 would read G.TXT, which is read protected; block 7 deletes it
abbrev AnswerAfter : Call → Call → ℕ → Type 0
AnswerAfter c e v = Both (answers flex (next flex pair c) e) (reply (fate 1 5 (told flex pair (c ∷ [])) e)) v

pub heedless-fails : Demand3 heedless → ⊥
unfolding rules demands paired
heedless-fails d = differ 0 17 refl (d pair pair-start (setting 6 4 71 ∷ asking 6 0 ∷ []) (refl, (refl, tt))).answered.2.0

pub heedless-ours : AnswerAfter (setting 6 4 71) (asking 6 0) 17
unfolding rules demands paired
heedless-ours = (refl, refl)

pub guarding-fails : Demand3 guarding → ⊥
unfolding rules demands paired
guarding-fails d = differ 17 0 refl (d pair pair-start (setting 7 4 71 ∷ asking 7 0 ∷ []) (refl, (refl, tt))).answered.2.0

pub guarding-ours : AnswerAfter (setting 7 4 71) (asking 7 0) 0
unfolding rules demands paired
guarding-ours = (refl, refl)

-- `accepted`: five sectors; the third, A.TXT's first, is slot 1's
abbrev numbers_in : Survey → List ℕ
numbers_in (survey a xs ys) = xs

abbrev owners_in : Survey → List ℕ
owners_in (survey a xs ys) = ys

abbrev surveyed : Service → Survey
surveyed σ = σ.census pair.img (zeros 5) (zeros 5)

pub counting-fails : Demand3 counting → ⊥
unfolding rules demands paired
counting-fails d = differ 4 5 refl (ap (λ (s : Survey). length (numbers_in s)) ((d pair pair-start [] tt).accepted (zeros 5) (zeros 5) refl refl))

pub counting-ours : Both (length (numbers_in (surveyed flex))) (length (ledger_numbers 5 (begun pair))) 5
unfolding rules demands paired
counting-ours = (refl, refl)

pub inventing-fails : Demand3 inventing → ⊥
unfolding rules demands paired
inventing-fails d = differ 0 1 refl (ap (λ (s : Survey). get_or (owners_in s) 2 0) ((d pair pair-start [] tt).accepted (zeros 5) (zeros 5) refl refl))

pub inventing-ours : Both (get_or (owners_in (surveyed flex)) 2 0) (get_or (ledger_owners 5 (begun pair)) 2 0) 1
unfolding rules demands paired
inventing-ours = (refl, refl)

-- `table`: a byte of it after these calls
abbrev table_byte : Service → List Call → ℕ → ℕ
table_byte σ cs p = byte_at (run σ pair cs).tab p

abbrev told_byte : Service → List Call → ℕ → ℕ
told_byte σ cs p = byte_at (table_of (told σ pair cs)) p

table-byte : (σ : Service) → Demand3 σ → (cs : List Call) → Plain (past σ pair cs) → (p : ℕ) → table_byte σ cs p ≡ told_byte σ cs p
table-byte σ d cs q p = ap (λ (m : List ℕ). byte_at m p) (d pair pair-start cs q).table

-- block 3 opens the directory; block 2 waits to read B.DAT
pub meddling-fails : Demand3 meddling → ⊥
unfolding rules demands paired
meddling-fails d = differ 12 1 refl (table-byte meddling d (asking 3 0 ∷ []) (refl, tt) 640)

pub meddling-ours : Both (table_byte flex (asking 3 0 ∷ []) 640) (told_byte flex (asking 3 0 ∷ []) 640) 1
unfolding rules demands paired
meddling-ours = (refl, refl)

-- block 1 opens B.DAT and reads a byte: its position is 1,4
pub misplacing-fails : Demand3 misplacing → ⊥
unfolding rules demands paired
misplacing-fails d = differ 9 4 refl (table-byte misplacing d (asking 1 0 ∷ asking 1 0 ∷ []) (refl, (refl, tt)) 351)

pub misplacing-ours : Both (table_byte flex (asking 1 0 ∷ asking 1 0 ∷ []) 351) (told_byte flex (asking 1 0 ∷ asking 1 0 ∷ []) 351) 4
unfolding rules demands paired
misplacing-ours = (refl, refl)

-- `lists`: block 3 opens the directory and asks for the first slot, which is A.TXT's
abbrev opens : List Call
opens = asking 3 0 ∷ setting 3 0 7 ∷ []

pub mislisting-fails : Demand3 mislisting → ⊥
unfolding rules demands paired
mislisting-fails d =
    differ 90 65 refl
    (ap (λ (m : List ℕ). byte_at m 0)
    ((d pair pair-start opens (refl, (refl, tt))).lists 3 0 0 (record { block = omega arith; function = refl; drive = refl }) refl (omega arith)).1)

pub mislisting-ours : Both (byte_at (part (next flex (run flex pair opens) (asking 3 0)).tab 964 24) 0) (byte_at (entry_of (file (told flex pair opens) 0)) 0) 65
unfolding rules demands paired
mislisting-ours = (refl, refl)

-- `spared`: B.DAT's slot while block 1 opens it; its sector while block 0 makes C.TXT
pub deleting-fails : Demand3 deleting → ⊥
unfolding rules demands paired
deleting-fails d = differ 255 66 refl (ap (λ (m : List ℕ). byte_at m 0) ((d pair pair-start (asking 1 0 ∷ []) (refl, tt)).spared b_dat (omega arith) refl ((refl, (refl, tt)), tt)).slot)

pub deleting-ours : Both (byte_at (part (run flex pair (asking 1 0 ∷ [])).img b_dat_at 24) 0) (byte_at (part pair.img b_dat_at 24) 0) 66
unfolding rules demands paired
deleting-ours = (refl, refl)

abbrev record_byte : List (List ℕ) → ℕ
record_byte m = byte_at (get_or m 0 []) 3

pub scrambling-fails : Demand3 scrambling → ⊥
unfolding rules demands paired
scrambling-fails d = differ 7 1 refl (ap record_byte ((d pair pair-start (asking 0 0 ∷ []) (refl, tt)).spared b_dat (omega arith) refl ((refl, (refl, tt)), tt)).bytes)

pub scrambling-ours : Both (record_byte (wholly (run flex pair (asking 0 0 ∷ [])).img (8 ∷ []))) (record_byte (wholly pair.img (8 ∷ []))) 1
unfolding rules demands paired
scrambling-ours = (refl, refl)

-- `entries`: C.TXT is made, of the date 1, 2, 80, and D.TXT, of 3, 4, 81, which gets a byte
abbrev dated : List Call
dated = asking 0 0 ∷ asking 5 0 ∷ asking 5 8 ∷ []

pub swapping-fails : Demand3 swapping → ⊥
unfolding rules demands paired
swapping-fails d = differ 3 1 refl (ap (λ (m : List ℕ). byte_at m 21) ((d pair pair-start dated (refl, (refl, (refl, tt)))).entries 1 (omega arith)))

pub swapping-ours : Both (byte_at (part (run flex pair dated).img 1064 24) 21) (byte_at (entry_of (file (told flex pair dated) 1)) 21) 1
unfolding rules demands paired
swapping-ours = (refl, refl)

-- `stays`: C.TXT gets a byte
pub booting-fails : Demand3 booting → ⊥
unfolding rules demands paired
booting-fails d = differ 99 1 refl ((d pair pair-start (asking 0 0 ∷ asking 0 7 ∷ []) (refl, (refl, tt))).stays 0 refl refl refl refl)

pub booting-ours : Both (byte_at (run flex pair (asking 0 0 ∷ asking 0 7 ∷ [])).img 0) (byte_at pair.img 0) 1
unfolding rules demands paired
booting-ours = (refl, refl)

-- ---- where no slot is left: block 0 makes C.TXT, and the directory gets sector 6

-- `opens`, of demand 2
pub balking-fails : Demand2 balking → ⊥
unfolding rules demands paired
balking-fails d = differ 6 0 refl ((d full full_start [] tt).creates 0 10 0 (record { block = omega arith; function = refl; drive = refl }) refl refl refl refl).opens

pub balking-ours : answers flex full (asking 0 0) ≡ 0
unfolding rules demands paired
balking-ours = refl

-- `image`: byte 4 of the sector, where 88 stood
pub smudging-fails : Demand3 smudging → ⊥
unfolding rules demands paired
smudging-fails d = differ 88 0 refl (ap (λ (m : List ℕ). byte_at m 1540) (d full full_start (asking 0 0 ∷ []) (refl, tt)).image)

pub smudging-ours : (byte_at full.img 1540 ≡ 88)
    × Both (byte_at (run flex full (asking 0 0 ∷ [])).img 1540) (byte_at (image_of 5 (told flex full (asking 0 0 ∷ []))) 1540) 0
unfolding rules demands paired
smudging-ours = (refl, (refl, refl))

-- `accepted`: the census gives 46, since the sector is nobody's
pub detaching-fails : Demand3 detaching → ⊥
unfolding rules demands paired
detaching-fails d = differ 46 0 refl (ap survey_answer ((d full full_start (asking 0 0 ∷ []) (refl, tt)).accepted (zeros 5) (zeros 5) refl refl))

pub detaching-ours : flex.census (run flex full (asking 0 0 ∷ [])).img (zeros 5) (zeros 5) ≡ survey 0 (4 ∷ 1 ∷ 2 ∷ 0 ∷ 3 ∷ []) (0 ∷ 65534 ∷ 1 ∷ 1 ∷ 6 ∷ [])
unfolding rules demands paired
detaching-ours = refl

-- `accepted`: the directory's sector has an owner of its own
pub masking-fails : Demand3 masking → ⊥
unfolding rules demands paired
masking-fails d = differ 0 65534 refl (ap (λ (s : Survey). get_or (owners_in s) 1 0) ((d full full_start (asking 0 0 ∷ []) (refl, tt)).accepted (zeros 5) (zeros 5) refl refl))

pub masking-ours : get_or (ledger_owners 5 (told flex full (asking 0 0 ∷ []))) 1 0 ≡ 65534
unfolding rules demands paired
masking-ours = refl

-- `sectors`: a byte is sent, C.TXT closed and deleted, and the directory keeps its two sectors
abbrev unmade : List Call
unmade = asking 0 0 ∷ asking 0 7 ∷ setting 0 0 4 ∷ asking 0 0 ∷ setting 0 0 12 ∷ asking 0 0 ∷ []

pub returning-fails : Demand3 returning → ⊥
unfolding rules demands paired
returning-fails d = differ 1 2 refl (ap length (d full full_start unmade (refl, (refl, (refl, (refl, (refl, (refl, tt))))))).sectors)

pub returning-ours : (sectors_in full (run flex full unmade).img ≡ 4 ∷ 6 ∷ []) × (survey_answer (flex.census (run returning full unmade).img (zeros 5) (zeros 5)) ≡ 0)
unfolding rules demands paired
returning-ours = (refl, refl)
