-- ANY SEQUENCE of calls, formats and repairs, of our service: where plain calls end in a start; what holds wherever a sequence leads.
use Rattle.std.specs.Prelude.{◌≡◌, List, [], ◌∷◌, ℕ, ◌*◌, length}
use Rattle.std.proofs.Common.{ap, ap₂, ◌∙◌, subst, arith}
use Rattle.rules.specs.Outcome.{on_block}
use Rattle.rules.specs.Block.{block_at, activity_in, preset, extension}
use Rattle.rules.specs.Census.{survey, census, tally}
use Rattle.rules.specs.Call.{call}
use Rattle.laws.specs.Bytes.{length-zeros}
use Rattle.laws.specs.Addresses.{shape-true}
use Rattle.laws.specs.Each.{Each, each_append}
use Rattle.laws.specs.Small.{Small}
use Rattle.laws.specs.Facts.{Given}
use Rattle.laws.specs.Stores.{length-puts}
use Rattle.laws.specs.Effects.{preset-quiet, extension-quiet}
use Rattle.laws.proofs.Effects.{call-lawful}
use Rattle.demands.specs.Ledger.{Call, setting, extending, asking, File, Block, closed}
use Rattle.demands.specs.Diskette.{ledger_numbers, ledger_owners}
use Rattle.demands.specs.Service.{flex, Machine, SendsByte, outcome, next, run}
use Rattle.demands.specs.History.{Plain}
use Rattle.demands.specs.Demands.{last_track_of, per_track_of, survey_answer, data_sectors, Closed, Start, past, told}
use Rattle.demands.specs.Repairs.{repairs, mended}
use Rattle.demands.specs.Sequences.{Restarts, Deed, calling, formatting, repairing, checking, Stage, stage, formatted, here, onward, reached, AllProper, listed_in, EachOnce, Lasting, Lasts}
use Rattle.met.specs.Blanks.{from-blank}
use Rattle.met.proofs.Mends.{from-repair}
use Rattle.met.specs.Relation.{Keeps}
use Rattle.met.proofs.Runs.{Fine, start-sane, start-shape, start-shaped}
use Rattle.met.proofs.Second.{fine, demand2}
use Rattle.met.proofs.Third.{census-is, once-each, no-others, demand3}

-- ---- image and table of bytes, and a table of eight blocks: any calls leave that so

pub record Bytes (x : Machine) : Type 0 where
  pub image : Small x.img
  pub table : Small x.tab
  pub long : length x.tab ≡ 2560

bytes_next : (x : Machine) → Bytes x → (c : Call) → SendsByte c → Bytes (next flex x c)
unfolding next outcome
bytes_next x h (setting n i v) k = record {
  image = h.image;
  table = (preset-quiet x.img x.tab n i v).0.table_small (record { image = h.image; table = h.table; byte = k });
  long = length-puts (on_block (preset x.tab n i v)) x.tab (block_at n) ∙ h.long;
}
bytes_next x h (extending n c) k = record {
  image = h.image;
  table = (extension-quiet x.img x.tab n c).0.table_small (record { image = h.image; table = h.table; byte = omega arith });
  long = length-puts (on_block (extension x.tab n c)) x.tab (block_at n) ∙ h.long;
}
bytes_next x h (asking n b) k =
    let l = call-lawful x.img x.tab n b in
    let g : Given x.img x.tab b = record { image = h.image; table = h.table; byte = k } in
    record { image = l.image_small g; table = l.table_small g; long = length-puts (on_block (call x.img x.tab n b)) x.tab (block_at n) ∙ h.long }

bytes_run : (x : Machine) → Bytes x → (cs : List Call) → Each SendsByte cs → Bytes (run flex x cs)
unfolding run
bytes_run x h [] k = h
bytes_run x h (c ∷ cs) k = bytes_run (next flex x c) (bytes_next x h c k.0) cs k.1

start-bytes : (x : Machine) → Start x → Small x.tab → Bytes x
start-bytes x s t = record { image = s.bytes; table = t; long = s.table }

-- ---- after plain calls from a start

module _ (x : Machine) (s : Start x) (cs : List Call) (p : Plain (past flex x cs)) where
  abbrev y : Machine
  y = run flex x cs

  f : Fine (last_track_of x) (per_track_of x) y (told flex x cs)
  f = fine x s cs p

  -- as many data sectors as at the start
  sectors : data_sectors y.img ≡ last_track_of x * per_track_of x
  sectors = ap₂ (λ (u v : ℕ). u * v) f.agrees.shaped.last f.agrees.shaped.per

  surveyed : (xs ys : List ℕ) → length xs ≡ data_sectors y.img → length ys ≡ data_sectors y.img
      → census y.img xs ys ≡ survey 0 (ledger_numbers (per_track_of x) (told flex x cs)) (ledger_owners (per_track_of x) (told flex x cs))
  surveyed xs ys h k = census-is (last_track_of x) (per_track_of x) (start-shape x s) y (told flex x cs) f xs ys (h ∙ sectors) (k ∙ sectors)

  each_once : EachOnce flex y.img
  each_once = record {
    accepted = λ xs ys h k. ap survey_answer (surveyed xs ys h k);
    once = λ xs ys h k j b. ap (λ o. tally j (listed_in o)) (surveyed xs ys h k)
        ∙ once-each (last_track_of x) (per_track_of x) (start-shape x s) y (told flex x cs) f j (omega (arith, b, sectors));
    no_more = λ xs ys h k. ap (λ o. length (listed_in o)) (surveyed xs ys h k)
        ∙ no-others (last_track_of x) (per_track_of x) (start-shape x s) y (told flex x cs) f ∙ omega (arith, sectors);
  }

  -- with all blocks closed it is a start
  restart : Bytes y → Closed y.tab → Start y
  restart b c = record { accepted = each_once.accepted _ _ (length-zeros _) (length-zeros _); bytes = b.image; table = b.long; closed = c }

-- a block that the history has closed is closed in the table
closed-by : (S : ℕ) (os tab : List ℕ) (n : ℕ) (fs : List File) (b : Block) → b ≡ closed → Keeps S os tab n fs b → activity_in tab (320 * n) ≡ 0
closed-by S os tab n fs b e k = subst (λ (c : Block). Keeps S os tab n fs c) e k

pub restarts : Restarts flex
restarts x s t cs k p c = restart x s cs p (bytes_run x (start-bytes x s t) cs k) (λ n h. closed-by _ _ _ n _ _ (c n h) ((fine x s cs p).agrees.keeps n h))

-- ---- wherever a sequence leads

record Standing (g : Stage) : Type 0 where
  begins : Start g.start
  table : Small g.start.tab
  bytes : Each SendsByte g.calls

standing-bytes : (g : Stage) → Standing g → Bytes (here flex g)
standing-bytes g h = bytes_run g.start (start-bytes g.start h.begins h.table) g.calls h.bytes

all-lasting : (ds : List Deed) (g : Stage) → Standing g → AllProper flex g ds → Standing (reached flex g ds)
unfolding reached
all-lasting [] g h p = h
all-lasting (calling c ∷ ds) g h p =
    all-lasting ds (onward flex g (calling c)) (record { begins = h.begins; table = h.table; bytes = each_append SendsByte g.calls (c ∷ []) h.bytes (p.0, tt) }) p.1
all-lasting (formatting w ∷ ds) g h p =
    let b = standing-bytes g h in
    all-lasting ds (stage (formatted flex (here flex g) w))
    (record { begins = from-blank.begins (here flex g).img w (here flex g).tab p.0.2 p.0.0 b.long p.0.1; table = b.table; bytes = tt }) p.1
all-lasting (repairing ∷ ds) g h p =
    let b = standing-bytes g h in
    all-lasting ds (stage (mended flex (here flex g)))
    (record { begins = (from-repair.repaired (here flex g) b.image p.0.1).begins; table = b.table; bytes = tt }) p.1
all-lasting (checking ∷ ds) g h p =
    let b = standing-bytes g h in
    all-lasting ds (stage (here flex g)) (record { begins = record { accepted = p.0.1; bytes = b.image; table = b.long; closed = p.0.0 }; table = b.table; bytes = tt }) p.1

-- a repair of a start is not refused
repair-answers : (x : Machine) → Start x → repairs flex x ≡ 0
repair-answers x s =
    from-repair.accepts x s.table s.closed (shape-true x.img (record { shape = start-shape x s; long = omega (arith, (start-shaped x s).size) }))
    (start-sane x s).right (start-sane x s).no_twins

lasting : (g : Stage) → Standing g → Lasting flex g
lasting g h = record {
  begins = h.begins;
  back = λ p. demand2 g.start h.begins g.calls p;
  sound = λ p. demand3 g.start h.begins g.calls p;
  each_once = λ p. each_once g.start h.begins g.calls p;
  spares = λ p c s v.
      let b = standing-bytes g h in
      let st = restart g.start h.begins g.calls p b c in
      (from-repair.repaired (here flex g) b.image (repair-answers (here flex g) st)).spares_all st s v;
}

pub lasts : Lasts flex
lasts x s t ds p = lasting (reached flex (stage x) ds) (all-lasting ds (stage x) (record { begins = s; table = t; bytes = tt }) p)
