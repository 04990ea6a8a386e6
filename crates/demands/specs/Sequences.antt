-- ANY SEQUENCE of calls, formats and repairs, from a start: where demands 2 and 3 speak, and that each data sector is in one place.
use Rattle.std.specs.Prelude.{◌≡◌, List, [], ◌∷◌, ◌++◌, ℕ, ◌<◌, length}
use Rattle.rules.specs.Bytes.{zeros}
use Rattle.rules.specs.Outcome.{says_of, left_of}
use Rattle.rules.specs.Census.{Survey, survey, tally}
use Rattle.laws.specs.Each.{Each}
use Rattle.laws.specs.Small.{Small}
use Rattle.demands.specs.Ledger.{Call, closed, Ledger, block}
use Rattle.demands.specs.Service.{Wanted, Service, Machine, SendsByte, run}
use Rattle.demands.specs.History.{Plain}
use Rattle.demands.specs.Demands.{survey_answer, data_sectors, Closed, Start, Typed, past, told, ComesBack, AsItWas, Sound}
use Rattle.demands.specs.Repairs.{repairs, mended, LiveFile}

-- ---- WHERE CALLS END IN A START: plain calls after which all blocks are closed, by the history. So a repair, a format or another list can follow

abbrev pub Shut : Ledger → Type 0
Shut a = (n : ℕ) → n < 8 → block a n ≡ closed

abbrev pub Restarts : Service → Type 0
Restarts σ = (x : Machine) → Start x → Small x.tab → (cs : List Call) → Each SendsByte cs → Plain (past σ x cs) → Shut (told σ x cs) → Start (run σ x cs)

-- ---- sequences

-- a call, a format, a repair; a census, from whose 0 on the history begins anew
pub data Deed : Type 0 where
  calling : Call → Deed
  formatting : Wanted → Deed
  repairing : Deed
  checking : Deed

-- where a sequence has led: the start from which the history goes, which is the first one, or what the last format or repair left, or what the last census
-- saw; and the calls since
pub record Stage : Type 0 where
  pub start : Machine
  pub calls : List Call

abbrev pub stage : Machine → Stage
stage x = record { start = x; calls = [] }

-- what a format leaves, with the table as it is
abbrev pub formatted : Service → Machine → Wanted → Machine
formatted σ y w = record { img = left_of (σ.format y.img w); tab = y.tab }

module _ (σ : Service) where
  -- image and table
  abbrev pub here : Stage → Machine
  here g = run σ g.start g.calls

  abbrev pub onward : Stage → Deed → Stage
  onward g (calling c) = record { start = g.start; calls = g.calls ++ c ∷ [] }
  onward g (formatting w) = stage (formatted σ (here g) w)
  onward g repairing = stage (mended σ (here g))
  onward g checking = stage (here g)

  unfoldable pub reached : Stage → List Deed → Stage
  reached g [] = g
  reached g (d ∷ ds) = reached (onward g d) ds

  -- any call that sends a byte; "accepted formats and repairs (each made with all blocks closed)"; 02, "an image that the census accepts with all FCBs
  -- closed". After a raw write there is no history, so that blocks are closed is read off the table
  abbrev pub Proper : Stage → Deed → Type 0
  Proper g (calling c) = SendsByte c
  Proper g (formatting w) = Typed w × Closed (here g).tab × (says_of (σ.format (here g).img w) ≡ 0)
  Proper g repairing = Closed (here g).tab × (repairs σ (here g) ≡ 0)
  Proper g checking = Closed (here g).tab × (survey_answer (σ.census (here g).img (zeros (data_sectors (here g).img)) (zeros (data_sectors (here g).img))) ≡ 0)

  abbrev pub AllProper : Stage → List Deed → Type 0
  AllProper g [] = Unit {0}
  AllProper g (d ∷ ds) = Proper g d × AllProper (onward g d) ds

-- EACH DATA SECTOR ONCE: the service's census of the image answers 0, and lists every data sector once and nothing else
abbrev pub listed_in : Survey → List ℕ
listed_in (survey a xs ys) = xs

pub record EachOnce (σ : Service) (img : List ℕ) : Type 0 where
  pub accepted : (xs ys : List ℕ) → length xs ≡ data_sectors img → length ys ≡ data_sectors img → survey_answer (σ.census img xs ys) ≡ 0
  pub once : (xs ys : List ℕ) → length xs ≡ data_sectors img → length ys ≡ data_sectors img → (k : ℕ) → k < data_sectors img
      → tally k (listed_in (σ.census img xs ys)) ≡ 1
  pub no_more : (xs ys : List ℕ) → length xs ≡ data_sectors img → length ys ≡ data_sectors img → length (listed_in (σ.census img xs ys)) ≡ data_sectors img

-- what holds there: the last start is one, whatever was called before it, raw writes too; where the calls since are plain, demands 2 and 3 speak of them,
-- each data sector is in one place, and a repair with all blocks closed would leave every file as it is
pub record Lasting (σ : Service) (g : Stage) : Type 0 where
  pub begins : Start g.start
  pub back : Plain (past σ g.start g.calls) → ComesBack σ g.start g.calls
  pub sound : Plain (past σ g.start g.calls) → Sound σ g.start g.calls
  pub each_once : Plain (past σ g.start g.calls) → EachOnce σ (here σ g).img
  pub spares : Plain (past σ g.start g.calls) → Closed (here σ g).tab → (s : ℕ) → LiveFile (here σ g) s → AsItWas (here σ g) (mended σ (here σ g)).img s

-- AFTER ANY SEQUENCE
abbrev pub Lasts : Service → Type 0
Lasts σ = (x : Machine) → Start x → Small x.tab → (ds : List Deed) → AllProper σ (stage x) ds → Lasting σ (reached σ (stage x) ds)
