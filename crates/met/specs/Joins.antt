-- Two halves of a list of calls: what is true of each is true of the whole. For every service.
use Rattle.std.specs.Prelude.{◌≡◌, false, ℕ}
use Rattle.std.proofs.Math.Path.{refl, ap, subst}
use Rattle.std.proofs.Common.{sym, ◌∙◌}
use mathlib.Core.List.{List, [], ◌∷◌, ◌++◌}
use Rattle.demands.specs.Ledger.{Call, Ledger, fate}
use Rattle.demands.specs.Service.{Service, Machine, Entry, answers, gave, next, entry, run, log}
use Rattle.demands.specs.History.{Scene, then, history, scenes, raw, Plain}
use Rattle.demands.specs.Demands.{Demand2, Demand3, SpeakAgain}

module _ (σ : Service) where
  pub run-append : (cs ds : List Call) (x : Machine) → run σ x (cs ++ ds) ≡ run σ (run σ x cs) ds
  unfolding run
  run-append [] ds x = refl
  run-append (c ∷ cs) ds x = run-append cs ds (next σ x c)

  pub log-append : (cs ds : List Call) (x : Machine) → log σ x (cs ++ ds) ≡ log σ x cs ++ log σ (run σ x cs) ds
  unfolding run log
  log-append [] ds x = refl
  log-append (c ∷ cs) ds x = ap (λ (es : List Entry). entry σ x c ∷ es) (log-append cs ds (next σ x c))

module _ (M S : ℕ) where
  pub history-append : (es fs : List Entry) (a : Ledger) → history M S a (es ++ fs) ≡ history M S (history M S a es) fs
  unfolding history
  history-append [] fs a = refl
  history-append (e ∷ es) fs a = history-append es fs (then M S a e)

  pub plain-append : (es fs : List Entry) (a : Ledger) → Plain (scenes M S a (es ++ fs)) → Plain (scenes M S a es) × Plain (scenes M S (history M S a es) fs)
  unfolding history scenes
  plain-append [] fs a p = (tt, p)
  plain-append (e ∷ es) fs a p = let q = plain-append es fs (then M S a e) p.1 in ((p.0, q.0), q.1)

  plain-join : (es fs : List Entry) (a : Ledger) → Plain (scenes M S a es) → Plain (scenes M S (history M S a es) fs) → Plain (scenes M S a (es ++ fs))
  unfolding history scenes
  plain-join [] fs a p q = q
  plain-join (e ∷ es) fs a p q = (p.0, plain-join es fs (then M S a e) p.1 q)

  pub plain-before : (σ : Service) (cs ds : List Call) (x : Machine) (a : Ledger) → Plain (scenes M S a (log σ x (cs ++ ds))) → Plain (scenes M S a (log σ x cs))
  plain-before σ cs ds x a p = (plain-append (log σ x cs) (log σ (run σ x cs) ds) a (subst (λ (es : List Entry). Plain (scenes M S a es)) (log-append σ cs ds x) p)).0

  -- one call more
  module _ (σ : Service) (cs : List Call) (x : Machine) (a : Ledger) (c : Call) where
    pub run_more : run σ x (cs ++ c ∷ []) ≡ next σ (run σ x cs) c
    unfolding run
    run_more = run-append σ cs (c ∷ []) x

    pub history-more : history M S a (log σ x (cs ++ c ∷ [])) ≡ then M S (history M S a (log σ x cs)) (entry σ (run σ x cs) c)
    unfolding log history
    history-more = ap (history M S a) (log-append σ cs (c ∷ []) x) ∙ history-append (log σ x cs) (log σ (run σ x cs) (c ∷ [])) a

    -- as the history sees it
    abbrev pub last_scene : Scene
    last_scene = record { before = history M S a (log σ x cs); made = c; due = fate M S (history M S a (log σ x cs)) c; ans = answers σ (run σ x cs) c; back = gave σ (run σ x cs) c }

    pub plain-less : Plain (scenes M S a (log σ x cs)) → raw last_scene ≡ false → Plain (scenes M S a (log σ x (cs ++ c ∷ [])))
    unfolding log scenes entry
    plain-less p q =
        subst (λ (es : List Entry). Plain (scenes M S a es)) (sym (log-append σ cs (c ∷ []) x)) (plain-join (log σ x cs) (log σ (run σ x cs) (c ∷ [])) a p (q, tt))

    pub plain_more : Plain (scenes M S a (log σ x (cs ++ c ∷ []))) → raw last_scene ≡ false
    unfolding log history scenes entry
    plain_more p =
        (plain-append (log σ x cs) (log σ (run σ x cs) (c ∷ [])) a (subst (λ (es : List Entry). Plain (scenes M S a es)) (log-append σ cs (c ∷ []) x) p)).1.0

-- so demands 2 and 3 speak again from every start that a list of calls leads to
pub again : (σ : Service) → Demand2 σ → Demand3 σ → SpeakAgain σ
again σ d e x cs ds s p = record { back = d (run σ x cs) s ds p; sound = e (run σ x cs) s ds p; runs = run-append σ cs ds x; logs = log-append σ cs ds x }
