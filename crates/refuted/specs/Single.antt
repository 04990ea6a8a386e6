-- The demands leave no freedom. Two services that meet demand 1 are one service, on any bytes. Two that meet demand 3 answer alike, give the same
-- bytes, and leave the same image and table, for every start and every list of plain calls; and what is plain for the one is plain for the other.
use Rattle.std.specs.Prelude.{◌≡◌, false, ℕ, eqb}
use Rattle.std.proofs.Math.Path.{refl, sym, ap₂}
use Rattle.std.proofs.Common.{ap, ◌∙◌, subst}
use mathlib.Core.List.{List, [], ◌∷◌, ◌++◌, append_assoc, append-nil}
use Rattle.rules.specs.Bytes.{pick}
use Rattle.demands.specs.Ledger.{Call, setting, extending, asking, writes_raw, Ledger, asks, image_of, table_of, fate, reply}
use Rattle.demands.specs.Service.{Service, Machine, Entry, next, entry, run, log}
use Rattle.demands.specs.History.{then, history, scenes, Told, raw, Plain}
use Rattle.demands.specs.Demands.{last_track_of, per_track_of, Demand1, Start, begun, told, past, Demand3}
use Rattle.met.proofs.Ours.{ours}
use Rattle.met.specs.Joins.{plain-before, last_scene, plain-less, plain_more}

module _ (M S : ℕ) (σ τ : Service) where
  alike : (cs : List Call) (x y : Machine) (a : Ledger) → Told (scenes M S a (log σ x cs)) → Told (scenes M S a (log τ y cs)) → log σ x cs ≡ log τ y cs
  unfolding log scenes entry
  alike [] x y a p q = refl
  alike (c ∷ cs) x y a p q =
      let e : entry σ x c ≡ entry τ y c = ap₂ (λ (u v : ℕ). record { made = c; ans = u; back = v }) (p.0 ∙ sym q.0) (p.1 ∙ sym q.1) in
      ap₂ (λ (u : Entry) (v : List Entry). u ∷ v) e (alike cs (next σ x c) (next τ y c) (then M S a (entry σ x c)) p.2 (rw e q.2))

module _ (σ τ : Service) (d : Demand3 σ) (e : Demand3 τ) (x : Machine) (st : Start x) (cs : List Call) (p : Plain (past σ x cs)) (q : Plain (past τ x cs)) where
  pub one-log : log σ x cs ≡ log τ x cs
  one-log = alike (last_track_of x) (per_track_of x) σ τ cs x x (begun x) (d x st cs p).answered (e x st cs q).answered

  one-ledger : told σ x cs ≡ told τ x cs
  one-ledger = ap (history (last_track_of x) (per_track_of x) (begun x)) one-log

  pub one-image : (run σ x cs).img ≡ (run τ x cs).img
  one-image = (d x st cs p).image ∙ ap (image_of (per_track_of x)) one-ledger ∙ sym (e x st cs q).image

  pub one_table : (run σ x cs).tab ≡ (run τ x cs).tab
  one_table = (d x st cs p).table ∙ ap table_of one-ledger ∙ sym (e x st cs q).table

-- a list that is plain for the one is plain for the other: it is so by the history
module _ (σ τ : Service) (d : Demand3 σ) (e : Demand3 τ) (x : Machine) (st : Start x) where
  abbrev M : ℕ
  M = last_track_of x

  abbrev S : ℕ
  S = per_track_of x

  same-raw : (cs : List Call) → Plain (past σ x cs) → Plain (past τ x cs) → (c : Call) → raw (last_scene M S τ cs x (begun x) c) ≡ raw (last_scene M S σ cs x (begun x) c)
  same-raw cs p q (setting n i v) = refl
  same-raw cs p q (extending n k) = refl
  same-raw cs p q (asking n b) =
      ap (λ (a : Ledger). pick (writes_raw (asks a n b).code) (eqb (reply (fate M S a (asking n b))) 0) false) (sym (one-ledger σ τ d e x st cs p q))

  further : (ds cs : List Call) → Plain (past σ x (cs ++ ds)) → Plain (past τ x cs) → Plain (past τ x (cs ++ ds))
  further [] cs p q = subst (λ (l : List Call). Plain (past τ x l)) (sym (append-nil cs)) q
  further (c ∷ ds) cs p q =
      let join = append_assoc cs (c ∷ []) ds in
      let r : Plain (past σ x ((cs ++ c ∷ []) ++ ds)) = subst (λ (l : List Call). Plain (past σ x l)) (sym join) p in
      let one = plain-before M S σ (cs ++ c ∷ []) ds x (begun x) r in
      let none = plain-before M S σ cs (c ∷ []) x (begun x) one in
      subst (λ (l : List Call). Plain (past τ x l)) join
      (further ds (cs ++ c ∷ []) r (plain-less M S τ cs x (begun x) c q (same-raw cs none q c ∙ plain_more M S σ cs x (begun x) c one)))

  pub one_plain : (cs : List Call) → Plain (past σ x cs) → Plain (past τ x cs)
  unfolding log scenes
  one_plain cs p = further cs [] p tt

-- and of two that meet demand 1 the one is the other
pub one-service : (σ τ : Service) → Demand1 σ → Demand1 τ → σ ≡ τ
one-service σ τ d e = ours σ d ∙ sym (ours τ e)
