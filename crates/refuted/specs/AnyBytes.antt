-- Fakes that demand 1, or what is said of a format, refutes: on odd bytes a clause gives an equation of two numbers that differ; beside it, that ours passes
-- the same clause at the same point. Three of them do harm on damaged images alone: what they do there, computed.
use Rattle.std.specs.Prelude.{◌≡◌, refl, Bool, true, false, ◌≢◌, List, [], ◌∷◌, ◌++◌, ℕ, ◌+◌, ◌*◌, eqb, length, get_or, replicate, Result, Ok, Err}
use Rattle.std.proofs.Common.{sym, ap, ◌∙◌, arith, eq-eqb, eqb-true}
use Rattle.rules.specs.Image.{per_track, index, last_free}
use Rattle.rules.specs.Bytes.{pick, part, byte_at, over, one, zeros}
use Rattle.rules.specs.Outcome.{answer, given, Out, out, says_of, left_of}
use Rattle.rules.specs.Block.{function_in, activity_in}
use Rattle.rules.specs.Call.{call}
use Rattle.rules.specs.Census.{Survey, survey}
use Rattle.rules.specs.Directory.{member}
use Rattle.rules.specs.declared.NoSlot.{NoSlot}
use Rattle.rules.specs.declared.NoSlot.TheVariants.{Missing, Broken}
use Rattle.rules.specs.All.{rules}
use Rattle.laws.specs.Bytes.{length_over}
use Rattle.laws.specs.Effects.{answer_numbers}
use Rattle.laws.specs.Tests.{never, both, pick-cases}
use Rattle.demands.specs.Ledger.{Call, setting, asking, fate, reply}
use Rattle.chains.specs.Files.{sectors_at}
use Rattle.demands.specs.Service.{Wanted, Service, flex, ans_of, byte_of, img_of, tab_of, Machine, run, log}
use Rattle.demands.specs.Demands.{Lent, first_refusal, looks, InWords, survey_answer, data_sectors, told, Demand1, Demand3, FromBlank}
use Rattle.demands.specs.Repairs.{RightlyChained}
use Rattle.demands.specs.Sequences.{listed_in}
use Rattle.demands.specs.Fakes.{asks_for, transfers, spoilt, as_on, slot_of_name, damaged, emptied, refusing, misextending, wiping, misnoting, stalling, purging, softening, heedless, data_left, hasty, hoarding, rash, interleaving, harming, doubling, gutting, scouring, posing, leaving, remembering, wrapping, overlong, numberless, tidying, hiding, widening}
use Rattle.met.proofs.First.{demand1}
use Rattle.refuted.specs.All.{demands}
use Rattle.refuted.specs.Run.{outcomes}
use Rattle.refuted.specs.Pair.{b_dat, b_dat_at, below, small-below, pair_image, pair, pair-start, paired}

pub differ : (x y : ℕ) → eqb x y ≡ false → x ≡ y → ⊥
differ x y h e = never (sym h ∙ eq-eqb x y e)

-- two numbers that are v: what is, and what is due
abbrev pub Both : ℕ → ℕ → ℕ → Type 0
Both x y v = (x ≡ v) × (y ≡ v)

-- ---- demand 1: for any bytes

-- `extension`: byte 0 of the block
pub misextending-fails : Demand1 misextending → ⊥
unfolding rules
misextending-fails d = differ 12 0 refl (ap (λ r. byte_at (left_of r) 0) (d.extension (zeros 2560) 0 1))

pub misextending-ours : byte_at (left_of (flex.extension (zeros 2560) 0 1)) 0 ≡ 0
unfolding rules
misextending-ours = refl

-- an image of one byte, which has no shape, and a table of zeros
abbrev bare : Service → Out
bare σ = σ.call (7 ∷ []) (zeros 2560) 0 0

lent : Lent (zeros 2560) 0
unfolding rules
lent = record { table = refl; block = omega arith }

-- `early`: 16 is due; `lengths`: the image has its byte
pub wiping-fails : Demand1 wiping → ⊥
unfolding rules
wiping-fails d = differ 0 16 refl (d.words.early (7 ∷ []) (zeros 2560) 0 0 lent (differ 16 0 refl))

pub wiping-fails-too : Demand1 wiping → ⊥
unfolding rules
wiping-fails-too d = differ 0 1 refl (d.words.lengths (7 ∷ []) (zeros 2560) 0 0).0

pub wiping-ours : (ans_of (bare flex) ≡ 16) × (length (img_of (bare flex)) ≡ 1)
unfolding rules
wiping-ours = (refl, refl)

-- `error`: byte 1 of the block is the answer
pub misnoting-fails : Demand1 misnoting → ⊥
unfolding rules
misnoting-fails d = differ 99 16 refl (d.words.error (7 ∷ []) (zeros 2560) 0 0 lent)

pub misnoting-ours : Both (byte_at (tab_of (bare flex)) 1) (ans_of (bare flex)) 16
unfolding rules
misnoting-ours = (refl, refl)

-- `exact`: block 1 would read B.DAT, and the directory's sector is linked to itself
abbrev looped : List ℕ
looped = over pair_image 1024 (0 ∷ 5 ∷ [])

pub softening-fails : Demand1 softening → ⊥
unfolding rules paired
softening-fails d = differ 4 5 refl (d.words.exact looped pair.tab 1 0).0

pub softening-ours : ans_of (flex.call looped pair.tab 1 0) ≡ 5
unfolding rules paired
softening-ours = refl

-- and it would read G.TXT, which is read protected, while block 5 writes it: no start leads there
abbrev written_table : List ℕ
written_table = over (over (over pair.tab (320 * 5 + 2) (one 2)) (320 * 5 + 47) (0 ∷ 5 ∷ 160 ∷ [])) (320 * 6 + 4) (one 71)

pub heedless-fails-too : Demand1 heedless → ⊥
unfolding rules paired
heedless-fails-too d = differ 2 17 refl (d.words.exact pair_image written_table 6 0).0

pub heedless-ours-too : ans_of (flex.call pair_image written_table 6 0) ≡ 17
unfolding rules paired
heedless-ours-too = refl

-- `does`: block 0 reads, at index 10, where the census gives 42
abbrev reading_table : List ℕ
reading_table = over (over (zeros 2560) 2 (one 1)) 34 (one 10)

pub stalling-fails : Demand1 stalling → ⊥
unfolding rules demands paired
stalling-fails d = differ 10 11 refl (ap (λ o. byte_at (tab_of o) 34) (d.does looped reading_table 0 0))

pub stalling-ours : (byte_at (tab_of (flex.call looped reading_table 0 0)) 34 ≡ 11) × (survey_answer (flex.census looped (zeros 5) (zeros 5)) ≡ 42)
unfolding rules paired
stalling-ours = (refl, refl)

-- `does`: block 2 renames B.DAT, where first free is 0,2 and the census gives 44; A.TXT's slot is not named
abbrev strayed : List ℕ
strayed = over pair_image 541 (one 0)

abbrev renaming_table : List ℕ
renaming_table = over pair.tab 640 (one 13)

pub purging-fails : Demand1 purging → ⊥
unfolding rules demands paired
purging-fails d = differ 0 65 refl (ap (λ o. byte_at (img_of o) 1040) (d.does strayed renaming_table 2 0))

pub purging-ours : (byte_at (img_of (flex.call strayed renaming_table 2 0)) 1040 ≡ 65) × (survey_answer (flex.census strayed (zeros 5) (zeros 5)) ≡ 44)
unfolding rules paired
purging-ours = (refl, refl)

-- `format`: the byte 20 of A.TXT's last sector, 1,1, is still there
abbrev pub wanted : List ℕ → Wanted
wanted label = record { last = 1; per = 5; label = label; volume = 7; month = 11; day = 15; year = 26 }

abbrev pub blank_label : List ℕ
blank_label = 65 ∷ 76 ∷ 65 ∷ 82 ∷ 77 ∷ 83 ∷ 32 ∷ 32 ∷ 32 ∷ 32 ∷ 32 ∷ []

pub hasty-fails : Demand1 hasty → ⊥
unfolding rules paired data_left
hasty-fails d = differ 20 0 refl (ap (λ r. byte_at (left_of r) 1284) (d.format pair_image (wanted blank_label)))

pub hasty-ours : (says_of (flex.format pair_image (wanted blank_label)) ≡ 0) × (byte_at (left_of (flex.format pair_image (wanted blank_label))) 1284 ≡ 0)
unfolding rules paired
hasty-ours = (refl, refl)

-- `format_refused`: a label of no bytes, and the first byte of the image is gone
pub rash-fails : Demand1 rash → ⊥
unfolding rules paired
rash-fails d = differ 0 1 refl (ap (λ m. byte_at m 0) (d.words.format_refused pair_image (wanted []) (differ 40 0 refl)))

pub rash-ours : (says_of (flex.format pair_image (wanted [])) ≡ 40) × (byte_at (left_of (flex.format pair_image (wanted []))) 0 ≡ 1)
unfolding rules paired
rash-ours = (refl, refl)

-- `lists` of a blank diskette: the census gives 44
pub hoarding-fails : FromBlank hoarding → ⊥
unfolding rules paired
hoarding-fails d = differ 44 0 refl (ap survey_answer (d.lists pair_image (wanted blank_label) (zeros 5) (zeros 5) refl refl refl))

pub hoarding-ours : survey_answer (flex.census (left_of (flex.format pair_image (wanted blank_label))) (zeros 5) (zeros 5)) ≡ 0
unfolding rules paired
hoarding-ours = refl

-- `lists`: the census accepts, and its first number is 1
pub interleaving-fails : FromBlank interleaving → ⊥
unfolding rules paired
interleaving-fails d = differ 1 0 refl (ap first_listed (d.lists pair_image (wanted blank_label) (zeros 5) (zeros 5) refl refl refl))
  where
    first_listed : Survey → ℕ
    first_listed (survey a xs ys) = byte_at xs 0

pub interleaving-ours : flex.census (left_of (flex.format pair_image (wanted blank_label))) (zeros 5) (zeros 5) ≡ survey 0 (0 ∷ 1 ∷ 2 ∷ 3 ∷ 4 ∷ []) (zeros 5)
unfolding rules paired
interleaving-ours = refl

-- `accepts`: a right format is refused
pub refusing-fails-too : FromBlank refusing → ⊥
unfolding rules paired
refusing-fails-too d =
    differ 41 0 refl
    (d.accepts pair_image (wanted blank_label) (record { tracks = omega arith; most-tracks = omega arith; sectors = omega arith; most-sectors = omega arith }) refl refl)

-- ---- more, on any bytes

-- the end address of the empty file G.TXT is 9,0, which nothing uses: the census gives 45
unfoldable pub flawed : Machine
flawed = record { img = over pair_image 1199 (one 9); tab = pair.tab }

pub flawed-45 : survey_answer (flex.census flawed.img (zeros 5) (zeros 5)) ≡ 45
unfolding rules demands paired flawed
flawed-45 = refl

-- `exact`: block 0 is closed and asks for function 8
abbrev posing_table : List ℕ
posing_table = over pair.tab 0 (one 8)

pub posing-fails : Demand1 posing → ⊥
unfolding rules demands paired
posing-fails d = differ 0 18 refl (d.words.exact pair_image posing_table 0 0).0

-- `answered`: no raw write is due, by the history, so that demand 3 speaks of it
pub posing-fails-too : Demand3 posing → ⊥
unfolding rules demands paired
posing-fails-too d = differ 0 18 refl (d pair pair-start (setting 0 0 8 ∷ asking 0 0 ∷ []) (refl, (refl, tt))).answered.2.0

pub posing-ours : Both (ans_of (flex.call pair_image posing_table 0 0)) (reply (fate 1 5 (told flex pair (setting 0 0 8 ∷ [])) (asking 0 0))) 18
unfolding rules demands paired
posing-ours = (refl, refl)

-- `census`: the outputs after 45
pub leaving-fails : Demand1 leaving → ⊥
unfolding rules demands paired flawed
leaving-fails d = differ 0 65535 refl (ap (λ (s : Survey). get_or (listed_in s) 0 0) (d.census flawed.img (zeros 5) (zeros 5)))

pub leaving-ours : get_or (listed_in (flex.census flawed.img (zeros 5) (zeros 5))) 0 0 ≡ 65535
unfolding rules demands paired flawed
leaving-ours = refl

-- `unnamed`: byte 36 of block 0, which opens C.TXT; byte 0 of a block that reads and closes
pub remembering-fails : Demand1 remembering → ⊥
unfolding rules demands paired below
remembering-fails d = differ 204 203 refl (d.words.unnamed pair_image pair.tab 0 0 36 (small-below pair.tab refl) (omega arith) (λ e. differ 36 1 refl e) refl)

pub remembering-ours : byte_at (tab_of (flex.call pair_image pair.tab 0 0)) 36 ≡ 203
unfolding rules demands paired
remembering-ours = refl

abbrev closing_table : List ℕ
closing_table = over (over (zeros 2560) 2 (one 1)) 0 (one 4)

pub tidying-fails : Demand1 tidying → ⊥
unfolding rules demands paired below
tidying-fails d = differ 0 4 refl (d.words.unnamed pair_image closing_table 0 0 0 (small-below closing_table refl) (omega arith) (λ e. differ 0 1 refl e) refl)

pub tidying-ours : byte_at (tab_of (flex.call pair_image closing_table 0 0)) 0 ≡ 4
unfolding rules demands paired
tidying-ours = refl

-- `exact`: a byte is sent to A.TXT, of size 65,535
abbrev huge_table : List ℕ
huge_table = over (over (over (over (zeros 2560) 2 (one 2)) 21 (255 ∷ 255 ∷ [])) 47 (0 ∷ 5 ∷ 16 ∷ [])) 30 (1 ∷ 3 ∷ [])

pub wrapping-fails : Demand1 wrapping → ⊥
unfolding rules demands paired
wrapping-fails d = differ 0 10 refl (d.words.exact pair_image huge_table 0 0).0

pub wrapping-ours : ans_of (flex.call pair_image huge_table 0 0) ≡ 10
unfolding rules demands paired
wrapping-ours = refl

-- `exact`: sector 0,1 is read
abbrev boot_table : List ℕ
boot_table = over (over (zeros 2560) 0 (one 9)) 31 (one 1)

pub hiding-fails : Demand1 hiding → ⊥
unfolding rules demands paired
hiding-fails d = differ 9 0 refl (d.words.exact pair_image boot_table 0 0).0

pub hiding-ours : ans_of (flex.call pair_image boot_table 0 0) ≡ 0
unfolding rules demands paired
hiding-ours = refl

-- `none`: a table of a byte too many
pub widening-fails : Demand1 widening → ⊥
unfolding rules demands
widening-fails d = differ 0 13 refl (ap ans_of (d.words.none [] (zeros 2561) 0 0 (λ l. differ 2561 2560 refl l.table)))

pub widening-ours : ans_of (flex.call [] (zeros 2561) 0 0) ≡ 13
unfolding rules demands
widening-ours = refl

-- `text`: the sixteenth byte
abbrev sevens : List ℕ
sevens = replicate 16 7

pub overlong-fails : Demand1 overlong → ⊥
unfolding rules demands
overlong-fails d = differ 0 7 refl (ap (λ r. byte_at (left_of r) 15) (d.text sevens 5))

pub overlong-ours : byte_at (left_of (flex.text sevens 5)) 15 ≡ 7
unfolding rules demands
overlong-ours = refl

-- `format`: the volume number
pub numberless-fails : Demand1 numberless → ⊥
unfolding rules demands paired
numberless-fails d = differ 0 7 refl (ap (λ r. byte_at (left_of r) 540) (d.format pair_image (wanted blank_label)))

pub numberless-ours : byte_at (left_of (flex.format pair_image (wanted blank_label))) 540 ≡ 7
unfolding rules demands paired
numberless-ours = refl

-- ---- ON DAMAGED IMAGES: three services that are ours where the census accepts, and meet every other clause of demand 1: `does` alone stops them

abbrev Accepted : List ℕ → Type 0
Accepted img = survey_answer (flex.census img (zeros (data_sectors img)) (zeros (data_sectors img))) ≡ 0

-- a further change of the image of an accepted call, or none
either : (P : Out → Type 0) (t : Bool) (h : List ℕ → List ℕ) (o : Out) → P o → (ans_of o ≡ 0 → P (out (ans_of o) (byte_of o) (h (img_of o)) (tab_of o))) → P (spoilt t h (λ m. m) o)
either P t h (out a b img tab) p q = pick-cases P (pick (eqb a 0) t false) _ _ (λ e. q (eqb-true a 0 (both (eqb a 0) t e).0)) (λ e. p)

-- none, where the test fails
neither : (t : Bool) → pick t false false ≡ false
neither true = refl
neither false = refl

unspoilt : (h : List ℕ → List ℕ) (o : Out) → spoilt false h (λ m. m) o ≡ o
unspoilt h (out a b img tab) = rw (neither (eqb a 0)) refl

module _ (test : List ℕ → ℕ → Bool) (f : List ℕ → List ℕ → ℕ → List ℕ → List ℕ) (long : (img tab : List ℕ) (n : ℕ) (m : List ℕ) → length (f img tab n m) ≡ length m)
    (works : (tab : List ℕ) (n : ℕ) → test tab n ≡ true → looks (function_in tab (320 * n)) (activity_in tab (320 * n)) ≡ false) where
  -- what holds of ours, and of ours with another image where it is accepted, holds of it
  holds : (P : Out → Type 0) (img tab : List ℕ) (n b : ℕ) → P (flex.call img tab n b)
      → (ans_of (flex.call img tab n b) ≡ 0 → P (as_on (f img tab n (img_of (flex.call img tab n b))) (flex.call img tab n b))) → P ((harming test f).call img tab n b)
  holds P img tab n b p q = either P (pick (damaged img) (test tab n) false) (f img tab n) (flex.call img tab n b) p q

  harming-words : InWords (harming test f)
  harming-words = record {
    format_stated = demand1.words.format_stated;
    format_refused = demand1.words.format_refused;
    repair_stated = demand1.words.repair_stated;
    repair_refused = demand1.words.repair_refused;
    none = λ img tab n b h. holds (λ (o : Out). o ≡ out 13 0 img tab) img tab n b (demand1.words.none img tab n b h)
        (λ e. absurd (differ 13 0 refl (sym (ap ans_of (demand1.words.none img tab n b h)) ∙ e)));
    stated = λ img tab n b. holds (λ (o : Out). member (ans_of o) answer_numbers ≡ true) img tab n b (demand1.words.stated img tab n b) (λ e. demand1.words.stated img tab n b);
    exact = λ img tab n b. holds (λ (o : Out). (ans_of o ≡ answer (call img tab n b)) × (byte_of o ≡ given (call img tab n b))) img tab n b (refl, refl) (λ e. (refl, refl));
    early = λ img tab n b l h. holds (λ (o : Out). ans_of o ≡ first_refusal img tab (320 * n)) img tab n b (demand1.words.early img tab n b l h) (λ e. demand1.words.early img tab n b l h);
    refused = λ img tab n b l. holds (λ (o : Out). ans_of o ≢ 0 → o ≡ out (ans_of o) 0 img (over tab (320 * n + 1) (one (ans_of o)))) img tab n b
        (demand1.words.refused img tab n b l) (λ e h. absurd (h e));
    lengths = λ img tab n b. holds (λ (o : Out). (length (img_of o) ≡ length img) × (length (tab_of o) ≡ length tab)) img tab n b (demand1.words.lengths img tab n b)
        (λ e. let l = demand1.words.lengths img tab n b in (long img tab n (img_of (flex.call img tab n b)) ∙ l.0, l.1));
    error = λ img tab n b l. holds (λ (o : Out). byte_at (tab_of o) (320 * n + 1) ≡ ans_of o) img tab n b (demand1.words.error img tab n b l) (λ e. demand1.words.error img tab n b l);
    silent = λ img tab n b h. holds (λ (o : Out). byte_of o ≡ 0) img tab n b (demand1.words.silent img tab n b h) (λ e. demand1.words.silent img tab n b h);
    others = λ img tab n b p s h. holds (λ (o : Out). byte_at (tab_of o) p ≡ byte_at tab p) img tab n b (demand1.words.others img tab n b p s h) (λ e. demand1.words.others img tab n b p s h);
    unnamed = λ img tab n b i s l k h. holds (λ (o : Out). byte_at (tab_of o) (320 * n + i) ≡ byte_at tab (320 * n + i)) img tab n b
        (demand1.words.unnamed img tab n b i s l k h) (λ e. demand1.words.unnamed img tab n b i s l k h);
    looking = λ img tab n b h. looked img tab n b h (test tab n) refl;
  }
    where
      looked : (img tab : List ℕ) (n b : ℕ) → looks (function_in tab (320 * n)) (activity_in tab (320 * n)) ≡ true → (t : Bool) → test tab n ≡ t
          → img_of ((harming test f).call img tab n b) ≡ img
      looked img tab n b h true e = absurd (never (sym (works tab n e) ∙ h))
      looked img tab n b h false e =
          ap img_of (ap (λ (t : Bool). spoilt t (f img tab n) (λ m. m) (flex.call img tab n b)) (rw e (neither (damaged img))) ∙ unspoilt (f img tab n) (flex.call img tab n b))
          ∙ demand1.words.looking img tab n b h

  -- where the census accepts the image it is ours
  unharmed : (img tab : List ℕ) (n b : ℕ) → Accepted img → (harming test f).call img tab n b ≡ flex.call img tab n b
  unharmed img tab n b h = rw (eq-eqb _ 0 h) (unspoilt (f img tab n) (flex.call img tab n b))

-- what is due of such a service: it is ours where the census accepts, and meets demand 1 in words
abbrev Sly : Service → Type 0
Sly σ = InWords σ × ((img tab : List ℕ) (n b : ℕ) → Accepted img → σ.call img tab n b ≡ flex.call img tab n b)

-- function 0 in writing, 13 and 12 do not only look
works-0 : (tab : List ℕ) (n : ℕ) → transfers 2 tab n ≡ true → looks (function_in tab (320 * n)) (activity_in tab (320 * n)) ≡ false
unfolding looks
works-0 tab n h = let t = both (eqb (function_in tab (320 * n)) 0) _ h in rw (eqb-true (function_in tab (320 * n)) 0 t.0, eqb-true (activity_in tab (320 * n)) 2 t.1) refl

works-13 : (tab : List ℕ) (n : ℕ) → asks_for 13 tab n ≡ true → looks (function_in tab (320 * n)) (activity_in tab (320 * n)) ≡ false
unfolding looks member
works-13 tab n h = rw (eqb-true (function_in tab (320 * n)) 13 h) refl

works-12 : (tab : List ℕ) (n : ℕ) → asks_for 12 tab n ≡ true → looks (function_in tab (320 * n)) (activity_in tab (320 * n)) ≡ false
unfolding looks member
works-12 tab n h = rw (eqb-true (function_in tab (320 * n)) 12 h) refl

emptied-long : (m : List ℕ) (s : Result ℕ NoSlot) → length (emptied m s) ≡ length m
emptied-long m (Ok o) = length_over m (o + 13) (zeros 6)
emptied-long m (Err Missing) = refl
emptied-long m (Err Broken) = refl

pub doubling-sly : Sly doubling
doubling-sly =
    let f : List ℕ → List ℕ → ℕ → List ℕ → List ℕ = λ img tab n m. over m 541 (part img 541 6) in
    let long : (img tab : List ℕ) (n : ℕ) (m : List ℕ) → length (f img tab n m) ≡ length m = λ img tab n m. length_over m 541 (part img 541 6) in
    (harming-words (transfers 2) f long works-0, unharmed (transfers 2) f long works-0)

pub gutting-sly : Sly gutting
gutting-sly =
    let f : List ℕ → List ℕ → ℕ → List ℕ → List ℕ = λ img tab n m. emptied m (slot_of_name img tab n) in
    let long : (img tab : List ℕ) (n : ℕ) (m : List ℕ) → length (f img tab n m) ≡ length m = λ img tab n m. emptied-long m (slot_of_name img tab n) in
    (harming-words (asks_for 13) f long works-13, unharmed (asks_for 13) f long works-13)

pub scouring-sly : Sly scouring
scouring-sly =
    let f : List ℕ → List ℕ → ℕ → List ℕ → List ℕ = λ img tab n m. over m (256 * index (per_track img) (last_free img) + 2) (zeros 254) in
    let long : (img tab : List ℕ) (n : ℕ) (m : List ℕ) → length (f img tab n m) ≡ length m = λ img tab n m. length_over m (256 * index (per_track img) (last_free img) + 2) (zeros 254) in
    (harming-words (asks_for 12) f long works-12, unharmed (asks_for 12) f long works-12)

-- `does`: block 0 has opened C.TXT, and its first byte is sent. The count is 1 then, not 2
unfoldable pub opened : Machine
opened = run flex flawed (asking 0 0 ∷ [])

pub doubling-fails : Demand1 doubling → ⊥
unfolding rules demands paired flawed opened
doubling-fails d = differ 2 1 refl (ap (λ o. byte_at (img_of o) 546) (d.does opened.img opened.tab 0 70))

-- WHAT IT DOES: block 0 makes C.TXT and sends 70, closes; block 5 makes D.TXT and sends 80, closes; block 6 opens C.TXT and reads a byte. All is accepted.
-- C.TXT gives D.TXT's byte, and both are on sector 6
unfoldable pub work : List Call
work = asking 0 0 ∷ asking 0 70 ∷ setting 0 0 4 ∷ asking 0 0 ∷ asking 5 0 ∷ asking 5 80 ∷ setting 5 0 4 ∷ asking 5 0 ∷ asking 6 0 ∷ asking 6 0 ∷ []

-- the answers are all 0; the byte that is read, and the sectors of both files
abbrev Worked : Service → ℕ → List ℕ → List ℕ → Type 0
Worked σ v ks ls = (outcomes (log σ flawed work) ≡ replicate 9 (0, 0) ++ (0, v) ∷ [])
    × (sectors_at 5 (run σ flawed work).img 1064 ≡ ks) × (sectors_at 5 (run σ flawed work).img 1088 ≡ ls)

pub doubling-harm : Worked doubling 80 (6 ∷ []) (6 ∷ [])
unfolding rules demands paired flawed work
doubling-harm = (refl, refl, refl)

pub doubling-ours : Worked flex 70 (6 ∷ []) (9 ∷ [])
unfolding rules demands paired flawed work
doubling-ours = (refl, refl, refl)

-- `does`: block 2 renames B.DAT to E.DAT, and the file, which was sound, has no sector any more
pub gutting-fails : Demand1 gutting → ⊥
unfolding rules demands paired flawed
gutting-fails d = differ 0 1 refl (ap (λ o. length (sectors_at 5 (img_of o) b_dat_at)) (d.does flawed.img renaming_table 2 0))

pub gutting-ours : (ans_of (gutting.call flawed.img renaming_table 2 0) ≡ 0) × (sectors_at 5 (img_of (flex.call flawed.img renaming_table 2 0)) b_dat_at ≡ 8 ∷ [])
unfolding rules demands paired flawed
gutting-ours = (refl, refl)

-- last free is 1,4, the one sector of B.DAT, which is rightly chained: the census gives 44. Block 7 deletes G.TXT, which is empty
unfoldable pub crossed : Machine
crossed = record { img = over pair_image 544 (one 4); tab = over pair.tab 2244 (one 71) }

pub crossed-right : (survey_answer (flex.census crossed.img (zeros 5) (zeros 5)) ≡ 44) × RightlyChained crossed b_dat
unfolding rules demands paired crossed
crossed-right = (refl, refl)

-- `does`: the first byte of B.DAT
pub scouring-fails : Demand1 scouring → ⊥
unfolding rules demands paired crossed
scouring-fails d = differ 0 30 refl (ap (λ o. byte_at (img_of o) 2052) (d.does crossed.img crossed.tab 7 0))

pub scouring-ours : (ans_of (scouring.call crossed.img crossed.tab 7 0) ≡ 0) × (byte_at (img_of (flex.call crossed.img crossed.tab 7 0)) 2052 ≡ 30)
unfolding rules demands paired crossed
scouring-ours = (refl, refl)
