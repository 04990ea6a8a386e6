-- WHAT IS PROVED OF libflex.a, in one theorem. Given are seven functions that keep the promises of the exported entries, as the code does by its contracts
-- (served, Codes). From a start, after any calls, and any formats and repairs that are accepted with all blocks closed: answers, image, table and files are
-- what the history of accepted calls says, and every data sector is in one place; after a raw write (8, 10) again from the next format or repair, or from
-- where the census accepts with all blocks closed.
use Rattle.std.specs.Prelude.{◌≡◌, refl, ℕ, zero, suc, ◌*◌, ◌≤◌, ◌<◌, length}
use Rattle.std.proofs.Common.{sym, ap₂, ◌∙◌, arith, mul-le-mul_right}
use Rattle.std.proofs.Math.Path.{ap, subst}
use mathlib.Core.List.{List, [], ◌∷◌}
use Rattle.rules.specs.Bytes.{zeros}
use Rattle.rules.specs.Image.{last_track, per_track}
use Rattle.rules.specs.Outcome.{Told as Reply, says_of, left_of}
use Rattle.laws.specs.Bytes.{length-zeros}
use Rattle.laws.specs.Surveys.{length-bytes}
use Rattle.rules.specs.Census.{survey, tally}
use Rattle.laws.specs.Each.{Each, each_append}
use Rattle.demands.specs.Ledger.{Call, image_of, table_of}
use Rattle.demands.specs.Diskette.{ledger_numbers, ledger_owners}
use Rattle.demands.specs.Service.{Service, Machine, Entry, flex, run, log}
use Rattle.demands.specs.History.{Told, Plain, shown, files_on, history, scenes}
use Rattle.demands.specs.Demands.{survey_answer, Closed, Start, Sound, Demand1, Demand2, Demand3, FromBlank, SpeakAgain, data_sectors, last_track_of, per_track_of, begun, past}
use Rattle.demands.specs.Repairs.{FromRepair}
use Rattle.demands.specs.Sequences.{Restarts, Deed, calling, formatting, repairing, checking, Stage, stage, here, onward, reached, AllProper, Lasts}
use Rattle.demands.specs.Cuts.{PowerCut, in_order}
use Rattle.met.proofs.First.{demand1}
use Rattle.met.proofs.Second.{demand2}
use Rattle.met.proofs.Third.{demand3}
use Rattle.met.specs.Joins.{again}
use Rattle.met.specs.Blanks.{from-blank}
use Rattle.met.proofs.Mends.{from-repair}
use Rattle.met.proofs.Sequences.{restarts, lasts}
use Rattle.cutting.proofs.Theorem.{power-cut}
use Rattle.served.specs.Entries.{Held, Output, Askable, Entries, Kept, service_of, Same}
use Rattle.served.proofs.Served.{served}
use Rattle.served.specs.Runs.{Made, HeldMachine, held-run, held-format, held-repair, runs_same}

-- ---- THE STATEMENT

-- what a host can do: a call, a format, a repair, a census
abbrev pub Doable : Deed → Type 0
Doable (calling c) = Made c
Doable (formatting w) = Askable w
Doable repairing = Unit {0}
Doable checking = Unit {0}

-- WHAT THE HISTORY SAYS of the machine y and the log es that calls from the start x have left; σ is the service that the host has
pub record Says (σ : Service) (x y : Machine) (es : List Entry) : Type 0 where
  -- every answer is the predicted one; every byte of image and table, and every file, is what the history says
  pub answered : Told (scenes (last_track_of x) (per_track_of x) (begun x) es)
  pub image : y.img ≡ image_of (per_track_of x) (history (last_track_of x) (per_track_of x) (begun x) es)
  pub table : y.tab ≡ table_of (history (last_track_of x) (per_track_of x) (begun x) es)
  pub files : files_on (last_track_of x) (per_track_of x) y.img y.tab ≡ shown (history (last_track_of x) (per_track_of x) (begun x) es)
  -- the census accepts, and lists the history's sectors; EACH DATA SECTOR ONCE, under the free chain, the directory or one file, and nothing else
  pub accepted : (xs ys : List ℕ) → Output xs → Output ys → length xs ≡ data_sectors x.img → length ys ≡ data_sectors x.img
      → σ.census y.img xs ys
      ≡ survey 0 (ledger_numbers (per_track_of x) (history (last_track_of x) (per_track_of x) (begun x) es)) (ledger_owners (per_track_of x) (history (last_track_of x) (per_track_of x) (begun x) es))
  pub each_once : (k : ℕ) → k < data_sectors x.img → tally k (ledger_numbers (per_track_of x) (history (last_track_of x) (per_track_of x) (begun x) es)) ≡ 1
  pub no_more : length (ledger_numbers (per_track_of x) (history (last_track_of x) (per_track_of x) (begun x) es)) ≡ data_sectors x.img

-- where a sequence has led: the last start is one, and where the calls since are plain, image, table and log are what the history says
pub record Holds (σ : Service) (g : Stage) : Type 0 where
  pub begins : Start g.start
  pub says : Plain (past σ g.start g.calls) → Says σ g.start (here σ g) (log σ g.start g.calls)

-- from a start, after any calls, accepted formats and repairs, and censuses that accept
abbrev pub Archive : Type 0
Archive = (h : Entries) → Kept h → (x : Machine) → HeldMachine x → Start x → (ds : List Deed) → Each Doable ds → AllProper (service_of h) (stage x) ds
    → Holds (service_of h) (reached (service_of h) (stage x) ds)

-- ---- the same as ours, to a host

-- the outputs that a host lends for a census of an image that it holds
each-zero : (n : ℕ) → Each (λ (x : ℕ). x < 65536) (zeros n)
unfolding zeros
each-zero zero = tt
each-zero (suc n) = (omega arith, each-zero n)

few-sectors : (a b : ℕ) → a < 256 → b < 256 → a * b ≤ 65536
few-sectors a b h k = let e : a * b ≤ 256 * b = mul-le-mul_right b (omega arith) in omega (arith, e)

zeros-output : (img : List ℕ) → Held img → Output (zeros (data_sectors img))
zeros-output img h = record {
  numbers = each-zero (data_sectors img);
  long = omega (arith, length-bytes (zeros (data_sectors img)), length-zeros (data_sectors img), few-sectors (last_track img) (per_track img) (h.bytes.at 550) (h.bytes.at 551));
}

-- image and table of the last start, and the calls since, are such as a host can hold and make
pub record Handled (g : Stage) : Type 0 where
  pub machine : HeldMachine g.start
  pub calls : Each Made g.calls

module _ (σ : Service) (s : Same σ flex) where
  here-same : (g : Stage) → Handled g → here σ g ≡ here flex g
  here-same g m = (runs_same σ s g.start m.machine g.calls m.calls).0

  format-same : (g : Stage) → Handled g → (w : _) → Askable w → σ.format (here σ g).img w ≡ flex.format (here flex g).img w
  format-same g m w a =
      ap (λ (y : Machine). σ.format y.img w) (here-same g m) ∙ s.format (here flex g).img w (held-run g.start m.machine g.calls m.calls).image a

  repair-same : (g : Stage) → Handled g → σ.repair (here σ g).img (here σ g).tab ≡ flex.repair (here flex g).img (here flex g).tab
  repair-same g m =
      let y = held-run g.start m.machine g.calls m.calls in
      ap (λ (y : Machine). σ.repair y.img y.tab) (here-same g m) ∙ s.repair (here flex g).img (here flex g).tab y.image y.table

  -- what a format or a repair leaves, with the table as it is
  left-same : (g : Stage) (r r' : Reply) → Handled g → r ≡ r' → stage (record { img = left_of r; tab = (here σ g).tab }) ≡ stage (record { img = left_of r'; tab = (here flex g).tab })
  left-same g r r' m e = ap₂ (λ (o : Reply) (y : Machine). stage (record { img = left_of o; tab = y.tab })) e (here-same g m)

  -- so a sequence leads to the same place, and is proper for both
  pub record Carried (g : Stage) (ds : List Deed) : Type 0 where
    pub place : reached σ g ds ≡ reached flex g ds
    pub proper : AllProper flex g ds
    pub handled : Handled (reached flex g ds)

  pub carried : (ds : List Deed) (g : Stage) → Handled g → Each Doable ds → AllProper σ g ds → Carried g ds
  unfolding reached
  carried [] g m k p = record { place = refl; proper = tt; handled = m }
  carried (calling c ∷ ds) g m k p =
      let ih = carried ds (onward flex g (calling c)) (record { machine = m.machine; calls = each_append Made g.calls (c ∷ []) m.calls (k.0, tt) }) k.1 p.1 in
      record { place = ih.place; proper = (p.0, ih.proper); handled = ih.handled }
  carried (formatting w ∷ ds) g m k p =
      let y = held-run g.start m.machine g.calls m.calls in
      let f = format-same g m w k.0 in
      let e = left-same g (σ.format (here σ g).img w) (flex.format (here flex g).img w) m f in
      let ih = carried ds (onward flex g (formatting w)) (record { machine = record { image = held-format (here flex g).img w y.image k.0; table = y.table }; calls = tt }) k.1
      (subst (λ (u : Stage). AllProper σ u ds) e p.1) in
      record {
        place = ap (λ (u : Stage). reached σ u ds) e ∙ ih.place;
        proper = ((p.0.0, subst (λ (u : Machine). Closed u.tab) (here-same g m) p.0.1, ap says_of (sym f) ∙ p.0.2), ih.proper);
        handled = ih.handled;
      }
  carried (repairing ∷ ds) g m k p =
      let y = held-run g.start m.machine g.calls m.calls in
      let f = repair-same g m in
      let e = left-same g (σ.repair (here σ g).img (here σ g).tab) (flex.repair (here flex g).img (here flex g).tab) m f in
      let ih = carried ds (onward flex g repairing) (record { machine = record { image = held-repair (here flex g).img (here flex g).tab y.image; table = y.table }; calls = tt }) k.1
      (subst (λ (u : Stage). AllProper σ u ds) e p.1) in
      record {
        place = ap (λ (u : Stage). reached σ u ds) e ∙ ih.place;
        proper = ((subst (λ (u : Machine). Closed u.tab) (here-same g m) p.0.0, ap says_of (sym f) ∙ p.0.1), ih.proper);
        handled = ih.handled;
      }
  carried (checking ∷ ds) g m k p =
      let y = held-run g.start m.machine g.calls m.calls in
      let h = here-same g m in
      let zs = zeros (data_sectors (here flex g).img) in
      let o = zeros-output (here flex g).img y.image in
      let c : survey_answer (flex.census (here flex g).img zs zs) ≡ 0 =
      ap survey_answer (sym (s.census (here flex g).img zs zs y.image o o))
      ∙ subst (λ (u : Machine). survey_answer (σ.census u.img (zeros (data_sectors u.img)) (zeros (data_sectors u.img))) ≡ 0) h p.0.1 in
      let e : stage (here σ g) ≡ stage (here flex g) = ap stage h in
      let ih = carried ds (onward flex g checking) (record { machine = y; calls = tt }) k.1 (subst (λ (u : Stage). AllProper σ u ds) e p.1) in
      record {
        place = ap (λ (u : Stage). reached σ u ds) e ∙ ih.place;
        proper = ((subst (λ (u : Machine). Closed u.tab) h p.0.0, c), ih.proper);
        handled = ih.handled;
      }

-- ---- what is sound for ours holds of it

says-ours : (x : Machine) (cs : List Call) → Sound flex x cs → Says flex x (run flex x cs) (log flex x cs)
says-ours x cs s = record {
  answered = s.answered;
  image = s.image;
  table = s.table;
  files = s.files;
  accepted = λ xs ys a b h k. s.accepted xs ys h k;
  each_once = s.each_once;
  no_more = s.no_more;
}

-- by its own census, of an image that a host can hold
says-by : (σ : Service) → Same σ flex → (x y : Machine) (es : List Entry) → Held y.img → Says flex x y es → Says σ x y es
says-by σ s x y es held u = record {
  answered = u.answered;
  image = u.image;
  table = u.table;
  files = u.files;
  accepted = λ xs ys a b h k. s.census y.img xs ys held a b ∙ u.accepted xs ys a b h k;
  each_once = u.each_once;
  no_more = u.no_more;
}

pub says : (σ : Service) → Same σ flex → (g : Stage) → Handled g → Start g.start → Plain (past σ g.start g.calls) → Says σ g.start (here σ g) (log σ g.start g.calls)
says σ s g m st p =
    let x = g.start in
    let cs = g.calls in
    let e = runs_same σ s x m.machine cs m.calls in
    let q : Plain (past flex x cs) = subst (λ (es : List Entry). Plain (scenes (last_track_of x) (per_track_of x) (begun x) es)) e.1 p in
    let u = says-by σ s x (run flex x cs) (log flex x cs) (held-run x m.machine cs m.calls).image (says-ours x cs (demand3 x st cs q)) in
    subst (λ (y : Machine). Says σ x y (log σ x cs)) (sym e.0) (subst (λ (es : List Entry). Says σ x (run flex x cs) es) (sym e.1) u)

-- and entry by entry, on any bytes that a host can hold, it is the service of which all else is proved
pub record Proved (h : Entries) : Type 0 where
  pub same : Same (service_of h) flex
  pub first : Demand1 flex
  pub second : Demand2 flex
  pub third : Demand3 flex
  pub again : SpeakAgain flex
  pub blank : FromBlank flex
  pub repair : FromRepair flex
  pub restarts : Restarts flex
  pub lasts : Lasts flex
  pub cut : PowerCut flex in_order

pub proved : (h : Entries) → Kept h → Proved h
proved h k = record {
  same = served h k;
  first = demand1;
  second = demand2;
  third = demand3;
  again = again flex demand2 demand3;
  blank = from-blank;
  repair = from-repair;
  restarts = restarts;
  lasts = lasts;
  cut = power-cut;
}
