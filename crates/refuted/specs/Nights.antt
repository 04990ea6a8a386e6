-- A power cut is no empty demand: two nights, each ended by a cut and a repair, and what the theorem says of them; a cut that leaves the directory longer;
-- a delete whose sectors a host writes, with the directory's and without it.
use Rattle.std.specs.Prelude.{◌≡◌, refl, ◌≢◌, ◌⊎◌, Bool, true, false, List, [], ◌∷◌, ◌++◌, ℕ, ◌+◌, ◌*◌, ◌≤◌, length, get_or, drop, replicate, take}
use Rattle.std.proofs.Common.{sym, ap, ◌∙◌, subst, inl, inr, arith}
use Rattle.std.proofs.Math.Decide.{ℕ_discrete}
use Rattle.rules.specs.Bytes.{pick, byte_at, part, over, one, two, six, zeros}
use Rattle.rules.specs.Stores.{Store, store, stored}
use Rattle.rules.specs.Directory.{member}
use Rattle.rules.specs.Outcome.{left_of}
use Rattle.rules.specs.All.{rules}
use Rattle.laws.specs.Each.{Each, each_member}
use Rattle.laws.specs.Bytes.{length-zeros, part_same, over-other}
use Rattle.laws.specs.Tests.{both}
use Rattle.laws.specs.Small.{small-zeros}
use Rattle.laws.specs.Stores.{length-stored}
use Rattle.demands.specs.Ledger.{Call, setting, extending, asking, File, no_file}
use Rattle.demands.specs.Service.{flex, Machine, outcome, next, run, log}
use Rattle.demands.specs.History.{Scene, scenes, Plain, changing, Unnamed}
use Rattle.demands.specs.Demands.{sectors_in, place_in, AsItWas, Start, told, past}
use Rattle.demands.specs.Repairs.{LiveFile, SameSector, broken_off}
use Rattle.demands.specs.Cuts.{in_order, stores_of, CutShort, stopped, unlisted, listed, unused_in, files_in, mended_of, Recovered, Night, called, morning, nights, Untouched, storing, Passes, Pass}
use Rattle.cutting.proofs.Theorem.{power-cut}
use Rattle.refuted.specs.All.{demands}
use Rattle.refuted.specs.Pair.{b_dat, pair, pair-start, full, full_start, paired}
use Rattle.refuted.specs.Run.{outcomes, unhit, tame, plainly, unnamed}
use Rattle.refuted.specs.AnyBytes.{differ}
use Rattle.refuted.specs.Mended.{number}
use Rattle.refuted.specs.Cuts.{cut_at, zeros-closed, pair_small, full-small, full-told, growth, growing, linking-ours, deletes, deleting, freed, mark-first-costs-nothing, mark-first-name, mark-first-ours}

-- ---- a host that writes sectors

-- the store lies in a sector, which is not sector k
abbrev Beside : ℕ → Store → Type 0
Beside k (store j i vs) = (i + length vs ≤ 256) × (k ≢ j)

-- such stores leave sector k
beside_same : (k : ℕ) (ss : List Store) (img : List ℕ) → Each (Beside k) ss → SameSector k (stored img ss) img
beside_same k [] img h = refl
beside_same k (store j i vs ∷ ss) img h =
    beside_same k ss (over img (256 * j + i) vs) h.1
    ∙ part_same img (over img (256 * j + i) vs) (256 * k) (256 * k) 256
    (λ n b. over-other img (256 * j + i) vs (256 * k + n) (λ u v. h.0.1 (omega (arith, h.0.0))))

-- a call makes stores outside the directory, which has the sectors ds, and then one in sector d: all sectors are written but d
but-one : (y y' : Machine) (c : Call) (ss : List Store) (d i : ℕ) (vs ds : List ℕ) → y'.img ≡ stored (stored y.img ss) (store d i vs ∷ []) → i + length vs ≤ 256
    → sectors_in y y.img ≡ ds → member d ds ≡ true → Each (λ (k : ℕ). Each (Beside k) ss) ds → CutShort in_order y y' c (stored y.img ss)
but-one y y' c ss d i vs ds e b is m h = unlisted (length-stored ss y.img) (λ k. go k (ℕ_discrete k d)) (λ k q. old k (subst (λ (l : List ℕ). member k l ≡ true) is q))
  where
    old : (k : ℕ) → member k ds ≡ true → SameSector k (stored y.img ss) y.img
    old k q = beside_same k ss y.img (each_member (λ (j : ℕ). Each (Beside j) ss) ds k h q)

    go : (k : ℕ) → Dec (k ≡ d) → SameSector k (stored y.img ss) y.img ⊎ SameSector k (stored y.img ss) y'.img
    go k (yes q) = inl (old k (ap (λ (j : ℕ). member j ds) q ∙ m))
    go k (no q) = inr (subst (SameSector k (stored y.img ss)) (sym e) (sym (beside_same k (store d i vs ∷ []) (stored y.img ss) ((b, q), tt))))

-- ---- THE FIRST NIGHT, on the start with no slot left: block 0 makes C.TXT, for which the directory takes sector 6, and block 1 deletes B.DAT, sector 8. The
-- power fails in the delete: the free chain, sector 9, has got sector 8, and B.DAT is not marked yet

abbrev pub first_calls : List Call
first_calls = asking 0 0 ∷ setting 1 0 12 ∷ []

abbrev first_stores : List Store
first_stores = store 9 0 (two 260) ∷ store 2 29 (six 261 260 2) ∷ store 4 136 (one 255) ∷ []

unfoldable pub first_left : List ℕ
first_left = stored full.img (growth ++ take 2 first_stores)

-- repair is broken off before its last store, the free chain's record: sector 9 ends it again, but the record still has 8
unfoldable pub first_found : List ℕ
first_found = broken_off first_left (replicate 14 true ∷ [])

first-broken : first_found ≡ broken_off first_left (replicate 14 true ∷ [])
unfolding first_found
first-broken = refl

-- in the morning it is made again; the control blocks are lost
abbrev pub first : Night
first = record { calls = first_calls; last = asking 1 0; left = first_left; found = first_found; table = zeros 2560 }

-- the machine of the first morning: C.TXT is there, B.DAT too, and sector 9 is free
unfoldable pub dawn : Machine
dawn = record { img = stored full.img growth; tab = zeros 2560 }

-- every call is accepted; the stores of the last; what repair makes of what is found
pub first-is : (outcomes (log flex full (called first)) ≡ (0, 0) ∷ (0, 0) ∷ (0, 0) ∷ []) × (stores_of in_order (run flex full first_calls) (asking 1 0) ≡ first_stores)
    × (morning flex first ≡ dawn)
unfolding rules demands paired first_left first_found dawn
first-is = (refl, refl, refl)

-- two of these were made
first_short : first_left ≡ cut_at in_order (run flex full first_calls) (asking 1 0) 2
unfolding run next outcome first_left
first_short =
    ap (λ (ss : List Store). stored (stored full.img ss) (take 2 first_stores)) (sym growing.0)
    ∙ ap (λ (ss : List Store). stored (run flex full first_calls).img (take 2 ss)) (sym first-is.1)

-- ---- THE SECOND NIGHT: block 0 makes D.TXT, behind C.TXT, and its first byte takes sector 9. The box makes calls in a copy: the sectors that this one
-- changes are written, but for the directory's second

abbrev presets : List Call
presets = setting 0 0 2 ∷ setting 0 4 68 ∷ extending 0 1 ∷ []

abbrev pub second_calls : List Call
second_calls = presets ++ asking 0 0 ∷ []

-- D.TXT's slot; the image before the call
abbrev d_txt : Store
d_txt = store 6 40 (68 ∷ zeros 7 ++ 84 ∷ 88 ∷ 84 ∷ zeros 13)

unfoldable pub evening : List ℕ
evening = stored dawn.img (d_txt ∷ [])

-- what is written of it; what is left
abbrev nine_taken : List Store
nine_taken = store 2 29 (zeros 6) ∷ store 9 0 (two 0 ++ two 1 ++ zeros 252) ∷ []

unfoldable pub second_left : List ℕ
second_left = stored evening nine_taken

abbrev pub second : Night
second = record { calls = second_calls; last = asking 0 80; left = second_left; found = second_left; table = zeros 2560 }

abbrev second_stores : List Store
second_stores = nine_taken ++ store 6 53 (six 261 261 1) ∷ []

-- every call is accepted; the stores of the open and of the last; the directory
pub second_is : (outcomes (log flex dawn (called second)) ≡ (0, 0) ∷ (0, 0) ∷ (0, 0) ∷ (0, 0) ∷ (0, 0) ∷ []) × (stores_of in_order (run flex dawn presets) (asking 0 0) ≡ d_txt ∷ [])
    × (stores_of in_order (run flex dawn second_calls) (asking 0 80) ≡ second_stores) × (sectors_in (run flex dawn second_calls) evening ≡ 4 ∷ 6 ∷ [])
unfolding rules demands paired dawn evening
second_is = (refl, refl, refl, refl)

second-opens : (run flex dawn second_calls).img ≡ evening
unfolding run next outcome evening
second-opens = ap (stored dawn.img) second_is.1

second_short : CutShort in_order (run flex dawn second_calls) (run flex dawn (called second)) (asking 0 80) second_left
unfolding run next outcome two six zeros member second_left
second_short =
    let y = run flex dawn second_calls in
    let y' = run flex dawn (called second) in
    subst (λ (img : List ℕ). CutShort in_order y y' (asking 0 80) (stored img nine_taken)) second-opens
    (but-one y y' (asking 0 80) nine_taken 6 53 (six 261 261 1) (4 ∷ 6 ∷ []) (ap (stored y.img) second_is.2) (omega arith)
    (ap (sectors_in y) second-opens ∙ second_is.3) refl (off 4 (omega arith), (off 6 (omega arith), tt)))
  where
    off : (k : ℕ) → (4 ≤ k) × (k ≤ 6) → Each (Beside k) nine_taken
    off k b = ((omega arith, λ q. absurd (omega (arith, b.0))), ((omega arith, λ q. absurd (omega (arith, b.1))), tt))

-- ---- BOTH NIGHTS

abbrev pub two_nights : List Night
two_nights = first ∷ second ∷ []

-- no call is a raw write, and none deletes or renames A.TXT: computed in one go
abbrev pub a_txt : List ℕ
a_txt = part full.img (place_in full 0) 11

quiet : List Scene → Bool
quiet cs = pick (tame cs) (unhit a_txt cs) false

first-quiet : quiet (past flex full (called first)) ≡ true
unfolding rules demands paired quiet tame unhit
first-quiet = refl

second-quiet : quiet (past flex dawn (called second)) ≡ true
unfolding rules demands paired dawn quiet tame unhit
second-quiet = refl

quiet_is : (cs : List Scene) → quiet cs ≡ true → Plain cs × Unnamed changing a_txt cs
unfolding quiet
quiet_is cs h = let t = both (tame cs) (unhit a_txt cs) h in (plainly cs t.0, unnamed a_txt cs t.1)

first_passes : Passes flex in_order full first
first_passes = record {
  plain = (quiet_is (past flex full (called first)) first-quiet).0;
  bytes = (omega arith, (omega arith, (omega arith, tt)));
  short = stopped 2 first_short;
  found = storing (replicate 14 true ∷ []) first-broken;
  table = length-zeros 2560;
  closed = zeros-closed;
  small = small-zeros 2560;
}

second-passes : Passes flex in_order dawn second
second-passes = record {
  plain = (quiet_is (past flex dawn (called second)) second-quiet).0;
  bytes = (omega arith, (omega arith, (tt, (omega arith, (omega arith, tt)))));
  short = second_short;
  found = storing [] refl;
  table = length-zeros 2560;
  closed = zeros-closed;
  small = small-zeros 2560;
}

-- they pass as the demand says
pub two-nights-pass : Pass flex in_order full two_nights
two-nights-pass = (first_passes, (subst (λ (x : Machine). Passes flex in_order x second) (sym first-is.2) second-passes, tt))

-- something is to be mended each time: the free chain has B.DAT's sector too, then it ends before its record says; sector 9 is nobody's
pub two-nights-damage : (number first_left ≡ 46) × (number first_found ≡ 44) × (number second_left ≡ 46)
unfolding rules demands paired first_left first_found dawn evening second_left
two-nights-damage = (refl, refl, refl)

-- what is there at last: all files, C.TXT and D.TXT too; sector 9, which is free, has other bytes
pub two-nights-leave : (nights flex full two_nights).img ≡ stored evening (store 9 2 (two 1 ++ zeros 252) ∷ [])
unfolding rules demands paired nights dawn evening second_left
two-nights-leave = refl

pub two-nights-untouched : Untouched flex a_txt full two_nights
two-nights-untouched = (
  (quiet_is (past flex full (called first)) first-quiet).1,
  (subst (λ (x : Machine). Unnamed changing a_txt (past flex x (called second))) (sym first-is.2) (quiet_is (past flex dawn (called second)) second-quiet).1, tt),
)

a_txt-live : LiveFile full 0
unfolding rules demands paired
a_txt-live = record { slot = omega arith; alive = refl }

-- so the theorem says of them: what the second morning has is a start, and A.TXT has its slot, its sectors and every byte
pub two-nights-begin : Start (nights flex full two_nights)
two-nights-begin = power-cut.begins full full_start full-small two_nights two-nights-pass

pub two-nights-last : AsItWas full (nights flex full two_nights).img 0
two-nights-last = power-cut.lasts full full_start full-small two_nights two-nights-pass 0 a_txt-live two-nights-untouched

-- ---- A CUT THAT LEAVES THE DIRECTORY LONGER: of the four stores by which it grows the last, C.TXT's slot, is missing. The files are those of before the
-- call, and the directory has got sector 6

abbrev pub GrownCut : Type 0
GrownCut = Recovered flex full (told flex full []) 1 (cut_at in_order full (asking 0 0) 3) (zeros 2560)

pub grown-cut : GrownCut
unfolding run log scenes
grown-cut =
    power-cut.nothing full full_start full-small [] (asking 0 0) tt tt 3 (omega (arith, ap length growing.0)) (zeros 2560) (length-zeros 2560) zeros-closed

-- what repair leaves of it has these sectors of the directory
grown-cut-sectors : sectors_in full (stored full.img (take 3 growth)) ≡ 4 ∷ 6 ∷ []
unfolding rules demands paired
grown-cut-sectors = refl

grown-cut-left : mended_of flex (cut_at in_order full (asking 0 0) 3) (zeros 2560) ≡ stored full.img (take 3 growth)
grown-cut-left =
    ap (λ (ss : List Store). mended_of flex (stored full.img (take 3 ss)) (zeros 2560)) growing.0 ∙ ap left_of linking-ours.2

-- so this is what it has gained, whoever gives the record
pub gained-one : (r : GrownCut) → r.gained ≡ 6 ∷ []
gained-one r =
    sym (ap (drop 1) (sym (ap (sectors_in full) grown-cut-left ∙ grown-cut-sectors) ∙ r.sectors ∙ ap (λ (l : List ℕ). l ++ r.gained) full-told.0))

-- ---- A DELETE, of whose sectors a host has written all, or all but the directory's. Block 1 deletes B.DAT, sector 8: sectors 9 and 2, then 4

abbrev pub deleted : Machine
deleted = run flex pair (deletes ++ asking 1 0 ∷ [])

-- all but the directory's: 8 hangs at the end of the free chain, and B.DAT is not marked
abbrev eight_hung : List Store
eight_hung = store 9 0 (two 260) ∷ store 2 29 (six 258 260 3) ∷ []

unfoldable pub hung : List ℕ
hung = stored pair.img eight_hung

deleted-stores : (stores_of in_order deleting (asking 1 0) ≡ eight_hung ++ store 4 136 (one 255) ∷ []) × (sectors_in deleting pair.img ≡ 4 ∷ [])
unfolding rules demands paired
deleted-stores = (refl, refl)

deleted-is : (deleting.img ≡ pair.img) × (deleted.img ≡ stored hung (store 4 136 (one 255) ∷ []))
unfolding run next outcome hung
deleted-is = (refl, ap (stored pair.img) deleted-stores.0)

deleted-plain : Plain (past flex pair (deletes ++ asking 1 0 ∷ []))
unfolding rules demands paired
deleted-plain = (refl, (refl, tt))

-- what repair makes of both: B.DAT is marked, and its sector is free; or all is as it was
deleted-left : (mended_of flex deleted.img (zeros 2560) ≡ freed) × (mended_of flex hung (zeros 2560) ≡ pair.img)
unfolding run next outcome hung
deleted-left = (
  ap left_of mark-first-costs-nothing.2,
  ap (λ (ss : List Store). mended_of flex (stored pair.img (take 2 ss)) (zeros 2560)) (sym deleted-stores.0) ∙ ap left_of mark-first-ours.1,
)

-- the first byte of its slot there, and by the history after the call
abbrev mark_of : List File → ℕ
mark_of fs = byte_at (get_or fs b_dat no_file).name 0

marks : (mark_of (files_in deleting freed) ≡ 255) × (mark_of (files_in deleted pair.img) ≡ 66)
    × ((fs : List File) → mark_of ((told flex pair (deletes ++ asking 1 0 ∷ [])).slots ++ fs) ≡ 255)
unfolding rules demands paired
marks = (refl, refl, λ fs. refl)

-- the files of before the call are there again; or those of after it
abbrev pub Before : List ℕ → Type 0
Before m = Recovered flex deleting (told flex pair deletes) 1 m (zeros 2560)

abbrev pub After : List ℕ → Type 0
After m = Recovered flex deleted (told flex pair (deletes ++ asking 1 0 ∷ [])) 0 m (zeros 2560)

sides : (m : List ℕ) → CutShort in_order deleting deleted (asking 1 0) m → Before m ⊎ After m
sides m short =
    (power-cut.cut pair pair-start pair_small deletes (asking 1 0) (omega arith, (omega arith, tt)) deleted-plain m (zeros 2560) short (length-zeros 2560) zeros-closed).either

-- all written: the image is the one after the call, and the files are those of after it, not of before
not-before : Before deleted.img → ⊥
not-before r =
    differ 255 66 refl
    (sym (ap (λ (img : List ℕ). mark_of (files_in deleting img)) deleted-left.0 ∙ marks.0) ∙ ap mark_of r.files ∙ mark-first-name.1 (unused_in r.gained))

all-written : CutShort in_order deleting deleted (asking 1 0) deleted.img
unfolding hung
all-written =
    listed (ap length deleted-is.1 ∙ length-stored (eight_hung ++ store 4 136 (one 255) ∷ []) pair.img ∙ ap length (sym deleted-is.0)) (λ k. inr refl) (λ k h. refl)

pub listed-after : After deleted.img × (Before deleted.img → ⊥)
listed-after = (go (sides deleted.img all-written), not-before)
  where
    go : Before deleted.img ⊎ After deleted.img → After deleted.img
    go (inl r) = absurd (not-before r)
    go (inr r) = r

-- all but the directory's: they are those of before it, not of after
not_after : After hung → ⊥
not_after r =
    differ 66 255 refl
    (sym (ap (λ (img : List ℕ). mark_of (files_in deleted img)) deleted-left.1 ∙ marks.1) ∙ ap mark_of r.files ∙ marks.2 (unused_in r.gained))

others-written : CutShort in_order deleting deleted (asking 1 0) hung
unfolding one two six member hung
others-written =
    let e = deleted-is.0 in
    subst (λ (img : List ℕ). CutShort in_order deleting deleted (asking 1 0) (stored img eight_hung)) e
    (but-one deleting deleted (asking 1 0) eight_hung 4 136 (one 255) (4 ∷ [])
    (deleted-is.1 ∙ ap (λ (img : List ℕ). stored (stored img eight_hung) (store 4 136 (one 255) ∷ [])) (sym e)) (omega arith) (ap (sectors_in deleting) e ∙ deleted-stores.1) refl
    (((omega arith, λ q. absurd (omega arith)), ((omega arith, λ q. absurd (omega arith)), tt)), tt))

pub unlisted-before : Before hung × (After hung → ⊥)
unlisted-before = (go (sides hung others-written), not_after)
  where
    go : Before hung ⊎ After hung → Before hung
    go (inl r) = r
    go (inr r) = absurd (not_after r)
