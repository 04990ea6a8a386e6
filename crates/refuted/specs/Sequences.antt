-- A sequence of calls, with a raw write, a census, a repair and a format, on the start with three files: it is as `Lasts` supposes, and each data sector is
-- in one place at its end. Fakes that fail there.
use Rattle.std.specs.Prelude.{◌≡◌, refl, List, [], ◌∷◌, get_or, replicate}
use Rattle.std.proofs.Common.{ap, ◌∙◌, arith}
use Rattle.std.proofs.lemmas.List.{get_or-replicate}
use Rattle.rules.specs.Bytes.{zeros}
use Rattle.rules.specs.Census.{survey}
use Rattle.rules.specs.All.{rules}
use Rattle.laws.specs.Small.{Small}
use Rattle.demands.specs.Ledger.{Call, setting, asking, Block, closed, Ledger}
use Rattle.demands.specs.Service.{flex, run, log}
use Rattle.demands.specs.History.{Plain}
use Rattle.demands.specs.Demands.{Closed, Typed, told, past}
use Rattle.demands.specs.Sequences.{Shut, Restarts, Deed, calling, formatting, repairing, checking, stage, reached, here, AllProper, EachOnce, Lasting, Lasts}
use Rattle.demands.specs.Fakes.{hoarding, pretending, miscounting}
use Rattle.met.proofs.Sequences.{lasts}
use Rattle.refuted.specs.All.{demands}
use Rattle.refuted.specs.Pair.{below, small-below, closed-eight, pair, pair-start, paired}
use Rattle.refuted.specs.Run.{outcomes}
use Rattle.refuted.specs.AnyBytes.{differ, wanted, blank_label}

-- block 4 writes a boot sector raw; a census; block 2 deletes B.DAT; a repair; a format; block 0 makes C.TXT and sends a byte
abbrev raw_write : List Call
raw_write = setting 4 30 0 ∷ setting 4 31 1 ∷ setting 4 0 10 ∷ asking 4 0 ∷ []

abbrev deletes : List Call
deletes = setting 2 0 12 ∷ asking 2 0 ∷ []

abbrev deeds : List Call → List Deed → List Deed
deeds [] ds = ds
deeds (c ∷ cs) ds = calling c ∷ deeds cs ds

unfoldable pub busy_night : List Deed
busy_night = deeds raw_write (checking ∷ deeds deletes (repairing ∷ formatting (wanted blank_label) ∷ calling (asking 0 0) ∷ calling (asking 0 7) ∷ []))

-- what is asked for is made of bytes; the raw write is accepted; all blocks are closed when the census is made, and when repair and format are
asked-typed : Typed (wanted blank_label)
unfolding below
asked-typed = record { label = small-below blank_label refl; month = omega arith; day = omega arith; year = omega arith }

pub raw-accepted : outcomes (log flex pair raw_write) ≡ replicate 4 (0, 0)
unfolding rules demands paired
raw-accepted = refl

closed-then : Closed (run flex pair raw_write).tab
unfolding rules demands paired
closed-then = closed-eight (run flex pair raw_write).tab refl

closed-later : Closed (run flex (run flex pair raw_write) deletes).tab
unfolding rules demands paired
closed-later = closed-eight (run flex (run flex pair raw_write) deletes).tab refl

pub night-proper : AllProper flex (stage pair) busy_night
unfolding rules demands paired busy_night
night-proper =
    (omega arith, (omega arith, (omega arith, (omega arith, ((closed-then, refl), (omega arith, (omega arith, ((closed-later, refl), ((asked-typed, closed-later, refl), (omega arith, (omega arith, tt)))))))))))

table_small : Small pair.tab
unfolding rules paired below
table_small = small-below pair.tab refl

pub night-lasts : Lasting flex (reached flex (stage pair) busy_night)
night-lasts = lasts pair pair-start table_small busy_night night-proper

night-plain : Plain (past flex (reached flex (stage pair) busy_night).start (reached flex (stage pair) busy_night).calls)
unfolding rules demands paired busy_night
night-plain = (refl, (refl, tt))

-- each data sector once: 1 to 4 are free, 0 is the new file's
pub night-once : EachOnce flex (here flex (reached flex (stage pair) busy_night)).img
night-once = night-lasts.each_once night-plain

pub night-lists : flex.census (here flex (reached flex (stage pair) busy_night)).img (zeros 5) (zeros 5) ≡ survey 0 (1 ∷ 2 ∷ 3 ∷ 4 ∷ 0 ∷ []) (0 ∷ 0 ∷ 0 ∷ 0 ∷ 1 ∷ [])
unfolding rules demands paired busy_night
night-lists = refl

-- ---- fakes

-- `begins`: a blank diskette that counts one sector too few
pub hoarding-fails-too : Lasts hoarding → ⊥
unfolding rules demands paired below
hoarding-fails-too d =
    differ 44 0 refl
    (d pair pair-start table_small (formatting (wanted blank_label) ∷ [])
    ((asked-typed, pair-start.closed, refl), tt)).begins.accepted

-- `begins`: block 4 writes sector 1,5 raw, which is free and gets a link to nowhere; the repair that follows does nothing
pub pretending-fails-too : Lasts pretending → ⊥
unfolding rules demands paired below
pretending-fails-too d =
    differ 44 0 refl
    (d pair pair-start table_small (calling (setting 4 0 10) ∷ calling (asking 4 0) ∷ repairing ∷ [])
    (omega arith, (omega arith, ((closed-eight (run pretending pair (setting 4 0 10 ∷ asking 4 0 ∷ [])).tab refl, refl), tt)))).begins.accepted

-- plain calls that end in no start, with all blocks closed: block 2 deletes B.DAT
all-shut : (a : Ledger) → a.blocks ≡ replicate 8 closed → Shut a
all-shut a e n h = ap (λ (bs : List Block). get_or bs n closed) e ∙ get_or-replicate {A = Block} 8 n closed closed h

pub miscounting-fails : Restarts miscounting → ⊥
unfolding rules demands paired
miscounting-fails d =
    differ 44 0 refl
    (d pair pair-start table_small deletes (omega arith, (omega arith, tt)) (refl, (refl, tt)) (all-shut (told miscounting pair deletes) refl)).accepted

pub miscounting-ours : flex.census (run flex pair deletes).img (zeros 5) (zeros 5) ≡ survey 0 (1 ∷ 4 ∷ 3 ∷ 2 ∷ 0 ∷ []) (0 ∷ 0 ∷ 0 ∷ 1 ∷ 1 ∷ [])
unfolding rules demands paired
miscounting-ours = refl
