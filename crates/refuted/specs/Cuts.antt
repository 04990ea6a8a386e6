-- A power cut: other orders of the same stores, torn stores, and images that are not repaired. What each of them costs, if anything; that ours costs nothing
-- at the same point.
use Rattle.std.specs.Prelude.{◌≡◌, refl, ◌⊎◌, List, [], ◌∷◌, ◌++◌, ℕ, ◌+◌, ◌*◌, ◌≤◌, length, get_or, replicate, take, drop}
use Rattle.std.proofs.Common.{sym, ap, ◌∙◌, subst, inl, inr, arith, length-append}
use Rattle.std.proofs.Math.Decide.{ℕ_discrete}
use Rattle.rules.specs.Bytes.{byte_at, over, one, two, six, zeros}
use Rattle.rules.specs.Stores.{Store, store, stored, put, puts}
use Rattle.rules.specs.Outcome.{told as replied}
use Rattle.rules.specs.All.{rules}
use Rattle.laws.specs.Each.{Each}
use Rattle.laws.specs.Bytes.{length-zeros, zeros-at, part_same, part_slice, over_none, over-append, over-other}
use Rattle.laws.specs.Small.{Small}
use Rattle.laws.specs.Stores.{stored-append}
use Rattle.mending.specs.Cases.{diskette, at, link, free, file as entry}
use Rattle.chains.specs.Files.{sectors_at}
use Rattle.demands.specs.Ledger.{Call, setting, asking, File, no_file}
use Rattle.demands.specs.Service.{flex, img_of, Machine, next, run, SendsByte}
use Rattle.demands.specs.History.{Plain}
use Rattle.demands.specs.Demands.{sectors_in, Closed, Start, told, past}
use Rattle.demands.specs.Repairs.{repairs, SameSector}
use Rattle.demands.specs.Cuts.{Order, in_order, stores_of, stopped, unused_in, files_in, left_with, mended_of, Recovered, PowerCut}
use Rattle.demands.specs.Fakes.{third_early, fourth_early, last_first, linking, slot_first, mark_first, naming, scratching, lingering, in_bytes, torn, tearing}
use Rattle.refuted.specs.All.{demands}
use Rattle.refuted.specs.Pair.{b_dat, below, small-below, pair, pair-start, full, full_start, paired}
use Rattle.refuted.specs.AnyBytes.{differ}
use Rattle.refuted.specs.Mended.{number}

-- ---- what is computed

-- the image after the first k stores of a call
abbrev pub cut_at : Order → Machine → Call → ℕ → List ℕ
cut_at w y c k = stored y.img (take k (stores_of w y c))

-- repair, all blocks closed, answers 0 and makes this of it
abbrev Repaired : List ℕ → List ℕ → Type 0
Repaired m m' = flex.repair m (zeros 2560) ≡ replied 0 m'

pub zeros-closed : Closed (zeros 2560)
zeros-closed n h = zeros-at 2560 (320 * n + 2)

-- ALL OR NOTHING, as the demand says it of calls cs and one more, c, of whose stores k were made; the blocks are zeros then
abbrev Sides : Order → Machine → List Call → Call → ℕ → Type 0
Sides w x cs c k =
    Recovered flex (run flex x cs) (told flex x cs) 1 (cut_at w (run flex x cs) c k) (zeros 2560)
    ⊎ Recovered flex (run flex x (cs ++ c ∷ [])) (told flex x (cs ++ c ∷ [])) 0 (cut_at w (run flex x cs) c k) (zeros 2560)

sides : (w : Order) → PowerCut flex w → (x : Machine) → Start x → Small x.tab → (cs : List Call) (c : Call) → Each SendsByte (cs ++ c ∷ [])
    → Plain (past flex x (cs ++ c ∷ [])) → (k : ℕ) → Sides w x cs c k
sides w d x s t cs c e p k = (d.cut x s t cs c e p (cut_at w (run flex x cs) c k) (zeros 2560) (stopped k refl) (length-zeros 2560) zeros-closed).either

pub pair_small : Small pair.tab
unfolding rules paired below
pair_small = small-below pair.tab refl

pub full-small : Small full.tab
unfolding paired
full-small = pair_small

-- ---- THE DIRECTORY GROWS, and the new sector is linked before it is cleared. Block 0 makes C.TXT where no slot is left, and gets sector 6

full-plain : Plain (past flex full (asking 0 0 ∷ []))
unfolding rules demands paired
full-plain = (refl, tt)

-- sector 6 links to 9, which is free too: after two stores the directory has both, and never gives them back
abbrev linked_by : Machine → List ℕ
linked_by y = sectors_in y (mended_of flex (cut_at linking full (asking 0 0) 2) (zeros 2560))

linking-sectors : (linked_by full ≡ 4 ∷ 6 ∷ 9 ∷ []) × (linked_by (run flex full (asking 0 0 ∷ [])) ≡ 4 ∷ 6 ∷ 9 ∷ [])
unfolding rules demands paired
linking-sectors = (refl, refl)

pub full-told : ((told flex full []).dir ≡ 4 ∷ []) × ((told flex full (asking 0 0 ∷ [])).dir ≡ 4 ∷ 6 ∷ [])
unfolding rules demands paired
full-told = (refl, refl)

-- there may be two sectors at most
too_many : (new old gained : List ℕ) (most : ℕ) → new ≡ old ++ gained → length gained ≤ most → new ≡ 4 ∷ 6 ∷ 9 ∷ [] → length old + most ≤ 2 → ⊥
too_many new old gained most e h f b = absurd (omega (arith, h, ap length e, length-append old gained, ap length f, b))

pub linking-fails : PowerCut flex linking → ⊥
unfolding run
linking-fails d = go (sides linking d full full_start full-small [] (asking 0 0) (omega arith, tt) full-plain 2)
  where
    go : Sides linking full [] (asking 0 0) 2 → ⊥
    go (inl r) = too_many (linked_by full) (told flex full []).dir r.gained 1 r.sectors r.few linking-sectors.0 (omega (arith, ap length full-told.0))
    go (inr r) =
        too_many (linked_by (run flex full (asking 0 0 ∷ []))) (told flex full (asking 0 0 ∷ [])).dir r.gained 0 r.sectors r.few linking-sectors.1
        (omega (arith, ap length full-told.1))

-- our stores: the record, the clearing, the link, the slot; and the fake's. All of them give the same image
abbrev c_txt : List ℕ
c_txt = 67 ∷ zeros 7 ++ 84 ∷ 88 ∷ 84 ∷ zeros 10 ++ 1 ∷ 2 ∷ 80 ∷ []

abbrev pub growth : List Store
growth = store 2 29 (six 261 261 1) ∷ store 6 0 (zeros 256) ∷ store 4 0 (two 258) ∷ store 6 16 c_txt ∷ []

pub growing : (stores_of in_order full (asking 0 0) ≡ growth) × (stores_of linking full (asking 0 0) ≡ third_early growth)
unfolding rules demands paired
growing = (refl, refl)

pub linking-same : stored full.img (third_early growth) ≡ stored full.img growth
unfolding rules paired
linking-same = refl

-- ours: as before while the link is missing, but for bytes of sector 6, which is free; then the directory has it, and at last C.TXT
pub linking-ours : Repaired (stored full.img (take 1 growth)) full.img
    × Repaired (stored full.img (take 2 growth)) (stored full.img (store 6 2 (zeros 254) ∷ []))
    × Repaired (stored full.img (take 3 growth)) (stored full.img (take 3 growth))
    × Repaired (stored full.img growth) (stored full.img growth)
unfolding rules demands paired
linking-ours = (refl, refl, refl, refl)

-- the same with a sector 6 that was part of a text of one letter: after two stores the directory has ten slots of one name, and repair answers 43. No file
-- is to be had then
unfoldable pub lettered : Machine
lettered = record { img = over full.img 1538 (replicate 254 65); tab = full.tab }

lettered-start : Start lettered
unfolding rules paired below lettered
lettered-start = record { accepted = refl; bytes = small-below lettered.img refl; table = full_start.table; closed = full_start.closed }

lettered-small : Small lettered.tab
unfolding lettered
lettered-small = full-small

lettered-plain : Plain (past flex lettered (asking 0 0 ∷ []))
unfolding rules demands paired lettered
lettered-plain = (refl, tt)

lettered-answer : repairs flex (left_with (cut_at linking lettered (asking 0 0) 2) (zeros 2560)) ≡ 43
unfolding rules demands paired lettered
lettered-answer = refl

pub linking-fails-too : PowerCut flex linking → ⊥
unfolding run
linking-fails-too d = go (sides linking d lettered lettered-start lettered-small [] (asking 0 0) (omega arith, tt) lettered-plain 2)
  where
    go : Sides linking lettered [] (asking 0 0) 2 → ⊥
    go (inl r) = differ 43 0 refl (sym lettered-answer ∙ r.answer)
    go (inr r) = differ 43 0 refl (sym lettered-answer ∙ r.answer)

-- ---- A FILE TAKES A SECTOR, and its slot has it before it is there. Block 0 makes C.TXT, and its first byte takes sector 6, which has 88 in its first place

abbrev made : Machine
made = run flex pair (asking 0 0 ∷ [])

abbrev took : Machine
took = run flex pair (asking 0 0 ∷ asking 0 70 ∷ [])

taking-plain : Plain (past flex pair (asking 0 0 ∷ asking 0 70 ∷ []))
unfolding rules demands paired
taking-plain = (refl, (refl, tt))

-- after one store C.TXT has sector 6, and 88 for its first byte. Before the call it had none, after it a sector of zeros
abbrev c_txt_of : Machine → File
c_txt_of y = get_or (files_in y (mended_of flex (cut_at slot_first made (asking 0 70) 1) (zeros 2560))) 1 no_file

abbrev first_byte : File → ℕ
first_byte f = byte_at (get_or f.body 0 []) 0

slot-first-slot : (length (c_txt_of made).secs ≡ 1) × (first_byte (c_txt_of took) ≡ 88)
unfolding rules demands paired
slot-first-slot = (refl, refl)

slot-first-told : (fs : List File) → (length (get_or ((told flex pair (asking 0 0 ∷ [])).slots ++ fs) 1 no_file).secs ≡ 0)
    × (first_byte (get_or ((told flex pair (asking 0 0 ∷ asking 0 70 ∷ [])).slots ++ fs) 1 no_file) ≡ 0)
unfolding rules demands paired
slot-first-told fs = (refl, refl)

slot-first-neither : Sides slot_first pair (asking 0 0 ∷ []) (asking 0 70) 1 → ⊥
slot-first-neither (inl r) =
    differ 1 0 refl (sym slot-first-slot.0 ∙ ap (λ (fs : List File). length (get_or fs 1 no_file).secs) r.files ∙ (slot-first-told (unused_in r.gained)).0)
slot-first-neither (inr r) =
    differ 88 0 refl (sym slot-first-slot.1 ∙ ap (λ (fs : List File). first_byte (get_or fs 1 no_file)) r.files ∙ (slot-first-told (unused_in r.gained)).1)

pub slot-first-fails : PowerCut flex slot_first → ⊥
slot-first-fails d =
    slot-first-neither (sides slot_first d pair pair-start pair_small (asking 0 0 ∷ []) (asking 0 70) (omega arith, (omega arith, tt)) taking-plain 1)

-- our stores: the record, the new sector, the slot; and the fake's. All of them give the same image
abbrev taken : List Store
taken = store 2 29 (six 261 261 1) ∷ store 6 0 (two 0 ++ two 1 ++ zeros 252) ∷ store 4 53 (six 258 258 1) ∷ []

pub taking : (stores_of in_order made (asking 0 70) ≡ taken) × (stores_of slot_first made (asking 0 70) ≡ last_first taken)
unfolding rules demands paired
taking = (refl, refl)

pub slot-first-same : stored made.img (last_first taken) ≡ stored made.img taken
unfolding rules demands paired
slot-first-same = refl

-- ours: as before while the slot is missing, but for bytes of sector 6, which is free
pub slot-first-ours : Repaired (stored made.img (take 1 taken)) made.img
    × Repaired (stored made.img (take 2 taken)) (stored made.img (store 6 2 (two 1 ++ zeros 252) ∷ []))
    × Repaired (stored made.img taken) (stored made.img taken)
unfolding rules demands paired
slot-first-ours = (refl, refl, refl)

-- so a host that makes the call in a copy must not write the directory's sector before the others: every sector of this image is as before the call or as
-- after it, and its files are neither those of before nor those of after
abbrev slot_alone : List ℕ
slot_alone = stored made.img (store 4 53 (six 258 258 1) ∷ [])

slot-alone-is : (cut_at slot_first made (asking 0 70) 1 ≡ slot_alone) × (take 256 (drop 1024 slot_alone) ≡ take 256 (drop 1024 took.img))
    × (length slot_alone ≡ 2560) × (length made.img ≡ 2560) × (length took.img ≡ 2560)
unfolding rules demands paired
slot-alone-is = (refl, refl, refl, refl, refl)

pub slot-alone-sectors : (length slot_alone ≡ length made.img) × ((k : ℕ) → SameSector k slot_alone made.img ⊎ SameSector k slot_alone took.img)
unfolding six
slot-alone-sectors = (slot-alone-is.2 ∙ sym slot-alone-is.3, λ k. go k (ℕ_discrete k 4))
  where
    go : (k : ℕ) → Dec (k ≡ 4) → SameSector k slot_alone made.img ⊎ SameSector k slot_alone took.img
    go k (yes e) =
        inr (subst (λ (j : ℕ). SameSector j slot_alone took.img) (sym e)
        (part_slice slot_alone 1024 256 (omega (arith, slot-alone-is.2)) ∙ slot-alone-is.1 ∙ sym (part_slice took.img 1024 256 (omega (arith, slot-alone-is.4)))))
    go k (no e) =
        inl (part_same made.img slot_alone (256 * k) (256 * k) 256 (λ i h. over-other made.img 1077 (six 258 258 1) (256 * k + i) (λ a b. absurd (omega arith))))

pub slot-alone-neither : Recovered flex made (told flex pair (asking 0 0 ∷ [])) 1 slot_alone (zeros 2560)
    ⊎ Recovered flex took (told flex pair (asking 0 0 ∷ asking 0 70 ∷ [])) 0 slot_alone (zeros 2560) → ⊥
slot-alone-neither =
    subst (λ (m : List ℕ). Recovered flex made (told flex pair (asking 0 0 ∷ [])) 1 m (zeros 2560)
    ⊎ Recovered flex took (told flex pair (asking 0 0 ∷ asking 0 70 ∷ [])) 0 m (zeros 2560) → ⊥) slot-alone-is.0 slot-first-neither

-- a file that has a sector loses nothing by it: its last link still ends it, and repair cuts the slot back. A.B has 1,1 and 1,2, and takes 1,3
unfoldable pub longer : Machine
longer = record {
  img = diskette (entry 0 65 (at 1) (at 2) 2 ++ link 1 (at 2) ∷ link 3 (at 4) ∷ link 4 (at 5) ∷ free (at 3) (at 5) 3 ∷ []);
  tab = puts (zeros 2560) 0 (put 0 (0 ∷ 0 ∷ 2 ∷ []) ∷ put 17 (six (at 1) (at 2) 2) ∷ put 30 (two (at 2)) ∷ put 47 (0 ∷ 5 ∷ 16 ∷ []) ∷ []);
}

pub slot-first-spares : Repaired (cut_at slot_first longer (asking 0 70) 1) longer.img
    × Repaired (cut_at slot_first longer (asking 0 70) 2) longer.img
    × Repaired (cut_at slot_first longer (asking 0 70) 3) (stored longer.img (store 7 2 (two 3) ∷ []))
unfolding rules demands paired diskette longer
slot-first-spares = (refl, refl, refl)

-- ---- A DELETE marks first. Block 1 deletes B.DAT, sector 8

abbrev pub deletes : List Call
deletes = setting 1 0 12 ∷ []

abbrev pub deleting : Machine
deleting = run flex pair deletes

-- it costs no file: what hangs nowhere repair frees, so that after the mark it leaves what it leaves after the whole delete
abbrev pub freed : List ℕ
freed = stored pair.img (store 4 136 (one 255) ∷ link 2 (at 4) ∷ link 4 (at 5) ∷ free (at 2) (at 5) 3 ∷ [])

pub mark-first-costs-nothing : Repaired (cut_at mark_first deleting (asking 1 0) 1) freed
    × Repaired (cut_at mark_first deleting (asking 1 0) 2) freed
    × Repaired (next flex deleting (asking 1 0)).img freed
    × (cut_at mark_first deleting (asking 1 0) 3 ≡ (next flex deleting (asking 1 0)).img)
unfolding rules demands paired
mark-first-costs-nothing = (refl, refl, refl, refl)

-- but the file is gone while stores are missing: `nothing` fails
pub mark-first-name : (byte_at (get_or (files_in deleting (mended_of flex (cut_at mark_first deleting (asking 1 0) 1) (zeros 2560))) b_dat no_file).name 0 ≡ 255)
    × ((fs : List File) → byte_at (get_or ((told flex pair deletes).slots ++ fs) b_dat no_file).name 0 ≡ 66)
    × (length (stores_of mark_first deleting (asking 1 0)) ≡ 3)
unfolding rules demands paired
mark-first-name = (refl, (λ fs. refl), refl)

deletes-plain : Plain (past flex pair deletes)
unfolding rules demands paired
deletes-plain = (refl, tt)

pub mark-first-fails : PowerCut flex mark_first → ⊥
mark-first-fails d =
    let r =
    d.nothing pair pair-start pair_small deletes (asking 1 0) (omega arith, tt) deletes-plain 1 (omega (arith, mark-first-name.2)) (zeros 2560) (length-zeros 2560)
    zeros-closed in
    differ 255 66 refl
    (sym mark-first-name.0 ∙ ap (λ (fs : List File). byte_at (get_or fs b_dat no_file).name 0) r.files ∙ mark-first-name.1 (unused_in r.gained))

-- ours: as before while the mark is missing
pub mark-first-ours : Repaired (cut_at in_order deleting (asking 1 0) 1) pair.img × Repaired (cut_at in_order deleting (asking 1 0) 2) pair.img
unfolding rules demands paired
mark-first-ours = (refl, refl)

-- ---- THE DIRECTORY GROWS, and the slot is stored before its sector is linked: that costs nothing. While the link is missing the sector is free. (Stored
-- before the clearing it would be cleared too, and the image would be another one.)

pub naming-stores : stores_of naming full (asking 0 0) ≡ fourth_early growth
unfolding rules demands paired
naming-stores = refl

pub naming-costs-nothing : Repaired (stored full.img (take 3 (fourth_early growth))) (stored full.img (store 6 2 (zeros 14 ++ c_txt ++ zeros 216) ∷ []))
    × (stored full.img (fourth_early growth) ≡ stored full.img growth)
unfolding rules demands paired
naming-costs-nothing = (refl, refl)

-- ---- A SECTOR IS TORN, each byte stored for itself. All of them give our image, of any call

torn-bytes : (vs : List ℕ) (k i : ℕ) (img : List ℕ) → stored img (in_bytes k i vs) ≡ over img (256 * k + i) vs
unfolding one
torn-bytes [] k i img = over_none img (256 * k + i) []
torn-bytes (v ∷ vs) k i img =
    torn-bytes vs k (i + 1) (over img (256 * k + i) (one v))
    ∙ ap (λ (p : ℕ). over (over img (256 * k + i) (one v)) p vs) (omega arith)
    ∙ sym (over-append img (256 * k + i) (one v) vs)

torn-same : (ss : List Store) (img : List ℕ) → stored img (torn ss) ≡ stored img ss
torn-same [] img = refl
torn-same (store k i vs ∷ ss) img =
    stored-append (in_bytes k i vs) (torn ss) img ∙ torn-same ss (stored img (in_bytes k i vs)) ∙ ap (λ (m : List ℕ). stored m ss) (torn-bytes vs k i img)

pub tearing-same : (img tab : List ℕ) (n b : ℕ) → stored img (tearing img tab n b) ≡ img_of (flex.call img tab n b)
tearing-same img tab n b = torn-same (in_order img tab n b) img

-- block 0 makes C.TXT in a deleted slot whose file had sector 8, which is B.DAT's now. The first byte makes it live again: it keeps the sector, and B.DAT,
-- which no call names, is emptied
unfoldable pub stale : Machine
stale = record { img = over pair.img 1077 (1 ∷ 4 ∷ 1 ∷ 4 ∷ 0 ∷ 1 ∷ []); tab = pair.tab }

stale-start : Start stale
unfolding rules paired below stale
stale-start = record { accepted = refl; bytes = small-below stale.img refl; table = pair-start.table; closed = pair-start.closed }

stale-small : Small stale.tab
unfolding stale
stale-small = pair_small

stale-plain : Plain (past flex stale (asking 0 0 ∷ []))
unfolding rules demands paired stale
stale-plain = (refl, tt)

pub torn-open : Repaired (cut_at tearing stale (asking 0 0) 1) (stored stale.img (store 4 40 (one 67) ∷ store 4 149 (zeros 6) ∷ []))
unfolding rules demands paired stale
torn-open = refl

pub tearing-fails : PowerCut flex tearing → ⊥
unfolding rules demands paired stale
tearing-fails d =
    differ 0 1 refl
    (ap (λ (l : List ℕ). byte_at l 18)
    ((d.cut stale stale-start stale-small [] (asking 0 0) (omega arith, tt) stale-plain (cut_at tearing stale (asking 0 0) 1) (zeros 2560) (stopped 1 refl)
    (length-zeros 2560) zeros-closed
    ).others b_dat (record { slot = omega arith; alive = refl }) refl (refl, (refl, tt))).slot)

pub tearing-ours : Repaired (cut_at in_order stale (asking 0 0) 1) (next flex stale (asking 0 0)).img
unfolding rules demands paired stale
tearing-ours = refl

-- block 7 renames G.TXT to HX.DAT, where H.TXT is: torn behind its first byte there are two H.TXT, and repair answers 43
abbrev renames : List Call
renames = setting 7 0 13 ∷ setting 7 4 71 ∷ setting 7 53 72 ∷ setting 7 54 88 ∷ []

abbrev renaming : Machine
renaming = run flex full renames

renames-bytes : Each SendsByte (renames ++ asking 7 0 ∷ [])
renames-bytes = (omega arith, (omega arith, (omega arith, (omega arith, (omega arith, tt)))))

renames-plain : Plain (past flex full (renames ++ asking 7 0 ∷ []))
unfolding rules demands paired
renames-plain = (refl, (refl, (refl, (refl, (refl, tt)))))

pub torn-rename : repairs flex (left_with (cut_at tearing renaming (asking 7 0) 1) (zeros 2560)) ≡ 43
unfolding rules demands paired
torn-rename = refl

pub tearing-fails-too : PowerCut flex tearing → ⊥
tearing-fails-too d = go (sides tearing d full full_start full-small renames (asking 7 0) renames-bytes renames-plain 1)
  where
    go : Sides tearing full renames (asking 7 0) 1 → ⊥
    go (inl r) = differ 43 0 refl (sym torn-rename ∙ r.answer)
    go (inr r) = differ 43 0 refl (sym torn-rename ∙ r.answer)

pub torn-rename-ours : Repaired (cut_at in_order renaming (asking 7 0) 1) (next flex renaming (asking 7 0)).img
unfolding rules demands paired
torn-rename-ours = refl

-- ---- THE SAME RENAME with stores that are taken back. A boot sector is another for a while; or the directory has a free sector for a while

scratching-byte : (byte_at (mended_of flex (cut_at scratching renaming (asking 7 0) 1) (zeros 2560)) 0 ≡ 254)
    × (byte_at renaming.img 0 ≡ 1) × (byte_at (run flex full (renames ++ asking 7 0 ∷ [])).img 0 ≡ 1)
unfolding rules demands paired
scratching-byte = (refl, refl, refl)

pub scratching-fails : PowerCut flex scratching → ⊥
unfolding rules demands paired
scratching-fails d = go (sides scratching d full full_start full-small renames (asking 7 0) renames-bytes renames-plain 1)
  where
    go : Sides scratching full renames (asking 7 0) 1 → ⊥
    go (inl r) = differ 254 1 refl (sym scratching-byte.0 ∙ r.rest 0 refl refl refl ∙ scratching-byte.1)
    go (inr r) = differ 254 1 refl (sym scratching-byte.0 ∙ r.rest 0 refl refl refl ∙ scratching-byte.2)

pub scratching-same : stored renaming.img (stores_of scratching renaming (asking 7 0)) ≡ (next flex renaming (asking 7 0)).img
unfolding rules demands paired
scratching-same = refl

lingering-sectors : (length (sectors_in renaming (mended_of flex (cut_at lingering renaming (asking 7 0) 2) (zeros 2560))) ≡ 2)
    × (length (told flex full renames).dir ≡ 1) × (length (told flex full (renames ++ asking 7 0 ∷ [])).dir ≡ 1)
unfolding rules demands paired
lingering-sectors = (refl, refl, refl)

pub lingering-fails : PowerCut flex lingering → ⊥
lingering-fails d =
    go (d.cut full full_start full-small renames (asking 7 0) renames-bytes renames-plain
    (cut_at lingering renaming (asking 7 0) 2) (zeros 2560) (stopped 2 refl) (length-zeros 2560) zeros-closed).grows
  where
    go : (sectors_in renaming (mended_of flex (cut_at lingering renaming (asking 7 0) 2) (zeros 2560)) ≡ (told flex full renames).dir)
        ⊎ (sectors_in renaming (mended_of flex (cut_at lingering renaming (asking 7 0) 2) (zeros 2560)) ≡ (told flex full (renames ++ asking 7 0 ∷ [])).dir) → ⊥
    go (inl e) = omega (arith, lingering-sectors.0, lingering-sectors.1, ap length e)
    go (inr e) = omega (arith, lingering-sectors.0, lingering-sectors.2, ap length e)

pub lingering-same : stored renaming.img (stores_of lingering renaming (asking 7 0)) ≡ (next flex renaming (asking 7 0)).img
unfolding rules demands paired
lingering-same = refl

-- ---- WITHOUT REPAIR what a cut leaves need not be a start: the census, after each of our stores but the last

-- of a delete: the free chain runs on into the file, then holds its sector too
pub delete-1 : number (cut_at in_order deleting (asking 1 0) 1) ≡ 44
unfolding rules demands paired
delete-1 = refl

pub delete-2 : number (cut_at in_order deleting (asking 1 0) 2) ≡ 46
unfolding rules demands paired
delete-2 = refl

-- of a sector taken: it is nobody's, then the file runs on into it
pub take-1 : number (cut_at in_order longer (asking 0 70) 1) ≡ 46
unfolding rules demands diskette longer
take-1 = refl

pub take-2 : number (cut_at in_order longer (asking 0 70) 2) ≡ 46
unfolding rules demands diskette longer
take-2 = refl

pub take-3 : number (cut_at in_order longer (asking 0 70) 3) ≡ 45
unfolding rules demands diskette longer
take-3 = refl

-- where the directory grows: the sector is nobody's until it is the directory's
pub grow-1 : number (stored full.img (take 1 growth)) ≡ 46
unfolding rules paired
grow-1 = refl

pub grow-2 : number (stored full.img (take 2 growth)) ≡ 46
unfolding rules paired
grow-2 = refl

pub grow-3 : number (stored full.img (take 3 growth)) ≡ 0
unfolding rules paired
grow-3 = refl

-- and whoever goes on without a repair can end with two files on one sector. A.B has 1,1 to 1,4, C.B has 1,5, and none is free; block 0 deletes C.B, and the
-- power fails after the first of two stores
unfoldable pub crowded : Machine
crowded = record {
  img = diskette (entry 0 65 (at 1) (at 4) 4 ++ entry 1 67 (at 5) (at 5) 1 ++ link 1 (at 2) ∷ link 2 (at 3) ∷ link 3 (at 4) ∷ []);
  tab = puts (zeros 2560) 0 (put 0 (12 ∷ []) ∷ put 4 (67 ∷ []) ∷ put 12 (66 ∷ []) ∷ []);
}

-- then X.B is opened for write, and its first byte takes the sector that is free by the record, which C.B still has
abbrev went_on : List ℕ
went_on =
    (run flex (record {
      img = cut_at in_order crowded (asking 0 0) 1;
      tab = puts (zeros 2560) 0 (put 0 (2 ∷ []) ∷ put 4 (88 ∷ []) ∷ put 12 (66 ∷ []) ∷ []);
    })
    (asking 0 0 ∷ asking 0 70 ∷ [])).img

pub two-on-one : (number crowded.img ≡ 0) × (sectors_at 5 went_on 1064 ≡ 9 ∷ []) × (sectors_at 5 went_on 1088 ≡ 9 ∷ []) × (number went_on ≡ 46)
unfolding rules demands diskette crowded
two-on-one = (refl, refl, refl, refl)
