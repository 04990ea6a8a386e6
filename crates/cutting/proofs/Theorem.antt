-- A POWER CUT COSTS NO FILE: the demand, met by our service, with its stores in the order of the rules.
use Rattle.std.specs.Prelude.{◌≡◌, refl, true, ◌≢◌, ◌⊎◌, List, [], ◌∷◌, ◌++◌, ℕ, ◌<◌, length, take}
use Rattle.std.proofs.Common.{sym, ap, ap₂, ◌∙◌, subst, inl, inr, arith}
use Rattle.rules.specs.Stores.{stored}
use Rattle.rules.specs.Directory.{member, directory}
use Rattle.laws.specs.Each.{Each, each_left, each_right}
use Rattle.laws.specs.Small.{Small}
use Rattle.laws.specs.Facts.{Given}
use Rattle.laws.specs.Effects.{preset-quiet, extension-quiet}
use Rattle.laws.proofs.Effects.{call-lawful}
use Rattle.chains.specs.Directory.{directory-is}
use Rattle.demands.specs.Ledger.{Call, setting, extending, asking}
use Rattle.demands.specs.Service.{flex, Machine, outcome, next, run, SendsByte}
use Rattle.demands.specs.History.{Plain}
use Rattle.demands.specs.Demands.{last_track_of, per_track_of, Closed, Start, begun, told, past, sectors_in}
use Rattle.demands.specs.Repairs.{SameSector}
use Rattle.demands.specs.Cuts.{in_order, stores_of, Makes, CutShort, mended_of, Recovered, Survivable, PowerCut}
use Rattle.met.specs.Joins.{run_more, plain-before}
use Rattle.met.proofs.Runs.{Fine, always, start-shape, start_fine}
use Rattle.met.proofs.Third.{demand3}
use Rattle.cutting.proofs.Shorts.{nothing-comes, short-comes, one-changes}
use Rattle.cutting.specs.Kinds.{Intact, Longer, Comes, before, between, after}
use Rattle.cutting.proofs.Calls.{call-staged}
use Rattle.cutting.specs.Shorts.{intact-same, all-comes}
use Rattle.cutting.proofs.Intact.{no_longer, intact-recovers}
use Rattle.cutting.proofs.Regrown.{grown-recovers, grown-sectors}
use Rattle.cutting.specs.Unfinished.{unfinished}
use Rattle.cutting.specs.Outcomes.{after-cut}
use Rattle.cutting.specs.Nights.{nights-begin, nights-last}

-- ---- bytes stay below 256, in the image and in the table

record Low (x : Machine) : Type 0 where
  pub image : Small x.img
  pub table : Small x.tab

low-next : (x : Machine) (c : Call) → SendsByte c → Low x → Low (next flex x c)
unfolding next outcome
low-next x (setting n i v) h l =
    record { image = l.image; table = (preset-quiet x.img x.tab n i v).0.table_small (record { image = l.image; table = l.table; byte = h }) }
low-next x (extending n c) h l =
    record { image = l.image; table = (extension-quiet x.img x.tab n c).0.table_small (record { image = l.image; table = l.table; byte = omega arith }) }
low-next x (asking n b) h l =
    let w = call-lawful x.img x.tab n b in
    let g : Given x.img x.tab b = record { image = l.image; table = l.table; byte = h } in
    record { image = w.image_small g; table = w.table_small g }

low_run : (cs : List Call) (x : Machine) → Each SendsByte cs → Low x → Low (run flex x cs)
unfolding run
low_run [] x h l = l
low_run (c ∷ cs) x h l = low_run cs (next flex x c) h.1 (low-next x c h.0 l)

-- ---- the stores are ours

makes : Makes flex in_order
makes = record { image = λ img tab n b. refl; sectors = λ img tab n b. (call-lawful img tab n b).inside }

-- ---- from a start, after plain calls

module _ (x : Machine) (st : Start x) (sm : Small x.tab) where
  abbrev M : ℕ
  M = last_track_of x

  abbrev S : ℕ
  S = per_track_of x

  fine : (cs : List Call) → Plain (past flex x cs) → Fine M S (run flex x cs) (told flex x cs)
  fine cs pl = (always M S (start-shape x st) cs x (begun x) (start_fine x st) pl).0

  low : (cs : List Call) → Each SendsByte cs → Low (run flex x cs)
  low cs h = low_run cs x h (record { image = st.bytes; table = sm })

  module _ (cs : List Call) (c : Call) where
    abbrev y : Machine
    y = run flex x cs

    front-plain : Plain (past flex x (cs ++ c ∷ [])) → Plain (past flex x cs)
    front-plain pl = plain-before M S flex cs (c ∷ []) x (begun x) pl

    one_more : run flex x (cs ++ c ∷ []) ≡ next flex (run flex x cs) c
    one_more = run_more M S flex cs x (begun x) c

    -- the image after the call: every file is as after it
    done : Each SendsByte (cs ++ c ∷ []) → Plain (past flex x (cs ++ c ∷ [])) → (m tab : List ℕ) → m ≡ (next flex (run flex x cs) c).img
        → length tab ≡ 2560 → Closed tab → Recovered flex (run flex x (cs ++ c ∷ [])) (told flex x (cs ++ c ∷ [])) 0 m tab
    done h pl m tab e l cl =
        let y' = run flex x (cs ++ c ∷ []) in
        let a' = told flex x (cs ++ c ∷ []) in
        let s = (low (cs ++ c ∷ []) h).image in
        intact-recovers M S (start-shape x st) y' a' (fine (cs ++ c ∷ []) pl) s m
        (intact-same S a' y'.img m s (e ∙ sym (ap (λ (w : Machine). w.img) one_more))) 0 tab l cl

    -- what matters is as before the call, or the directory has grown: every file is as before it
    undone : Each SendsByte cs → Plain (past flex x cs) → (m tab : List ℕ)
        → Intact S (told flex x cs) (run flex x cs).img m ⊎ Longer S (told flex x cs) (run flex x cs).img m (next flex (run flex x cs) c).img
        → length tab ≡ 2560 → Closed tab → Recovered flex (run flex x cs) (told flex x cs) 1 m tab
    undone h pl m tab (inl i) l cl = intact-recovers M S (start-shape x st) y (told flex x cs) (fine cs pl) (low cs h).image m i 1 tab l cl
    undone h pl m tab (inr g) l cl = grown-recovers M S (start-shape x st) y (told flex x cs) (fine cs pl) (low cs h).image m (next flex y c).img g tab l cl

    -- a call that was cut short anywhere: the one or the other
    either : Each SendsByte (cs ++ c ∷ []) → Plain (past flex x (cs ++ c ∷ [])) → (m tab : List ℕ)
        → Comes S (run flex x cs) (told flex x cs) c m → length tab ≡ 2560 → Closed tab
        → Recovered flex (run flex x cs) (told flex x cs) 1 m tab ⊎ Recovered flex (run flex x (cs ++ c ∷ [])) (told flex x (cs ++ c ∷ [])) 0 m tab
    either h pl m tab (before i) l cl = inl (undone (each_left SendsByte cs (c ∷ []) h) (front-plain pl) m tab (inl i) l cl)
    either h pl m tab (between g) l cl = inl (undone (each_left SendsByte cs (c ∷ []) h) (front-plain pl) m tab (inr g) l cl)
    either h pl m tab (after e) l cl = inr (done h pl m tab e l cl)

    -- and the directory has the sectors of before or of after
    listed-after : Plain (past flex x (cs ++ c ∷ [])) → directory (next flex (run flex x cs) c).img M S ≡ (told flex x (cs ++ c ∷ [])).dir
    listed-after pl =
        let r = (fine (cs ++ c ∷ []) pl).agrees in
        ap (λ (w : Machine). directory w.img M S) (sym one_more)
        ∙ (directory-is M S (start-shape x st) (run flex x (cs ++ c ∷ [])).img (told flex x (cs ++ c ∷ [])).dir r.listing r.dir).1

    same_shape : Plain (past flex x (cs ++ c ∷ [])) → (img : List ℕ) → sectors_in (run flex x cs) img ≡ sectors_in (run flex x (cs ++ c ∷ [])) img
    same_shape pl img =
        let s = (fine cs (front-plain pl)).agrees.shaped in
        let s' = (fine (cs ++ c ∷ []) pl).agrees.shaped in
        ap₂ (λ (u v : ℕ). directory img u v) (s.last ∙ sym s'.last) (s.per ∙ sym s'.per)

    listed : Each SendsByte (cs ++ c ∷ []) → Plain (past flex x (cs ++ c ∷ [])) → (m tab : List ℕ)
        → Comes S (run flex x cs) (told flex x cs) c m → length tab ≡ 2560 → Closed tab
        → (sectors_in (run flex x cs) (mended_of flex m tab) ≡ (told flex x cs).dir) ⊎ (sectors_in (run flex x cs) (mended_of flex m tab) ≡ (told flex x (cs ++ c ∷ [])).dir)
    listed h pl m tab (before i) l cl =
        let lo = (low cs (each_left SendsByte cs (c ∷ []) h)).image in
        inl (no_longer y (told flex x cs) m tab (intact-recovers M S (start-shape x st) y (told flex x cs) (fine cs (front-plain pl)) lo m i 0 tab l cl))
    listed h pl m tab (between g) l cl =
        let lo = (low cs (each_left SendsByte cs (c ∷ []) h)).image in
        inr (grown-sectors M S (start-shape x st) y (told flex x cs) (fine cs (front-plain pl)) lo m (next flex y c).img g tab l cl ∙ listed-after pl)
    listed h pl m tab (after e) l cl =
        inr (same_shape pl (mended_of flex m tab) ∙ no_longer (run flex x (cs ++ c ∷ [])) (told flex x (cs ++ c ∷ [])) m tab (done h pl m tab e l cl))

    -- what is left of it is one of these
    left : Each SendsByte (cs ++ c ∷ []) → Plain (past flex x (cs ++ c ∷ [])) → (m : List ℕ) → CutShort in_order (run flex x cs) (run flex x (cs ++ c ∷ [])) c m
        → Comes S (run flex x cs) (told flex x cs) c m
    left h pl m short =
        let z = start-shape x st in
        let f = fine cs (front-plain pl) in
        let lo = low cs (each_left SendsByte cs (c ∷ []) h) in
        short-comes M S z y (told flex x cs) f lo.image c (call-staged M S z y (told flex x cs) f c) lo.table (each_right SendsByte cs (c ∷ []) h).0 m
        (subst (λ (w : Machine). CutShort in_order y w c m) one_more short)

    -- of its stores in order the last is missing
    missing : Each SendsByte cs → Plain (past flex x cs) → (k : ℕ) → k < length (stores_of in_order (run flex x cs) c)
        → Intact S (told flex x cs) (run flex x cs).img (stored (run flex x cs).img (take k (stores_of in_order (run flex x cs) c)))
        ⊎ Longer S (told flex x cs) (run flex x cs).img (stored (run flex x cs).img (take k (stores_of in_order (run flex x cs) c))) (next flex (run flex x cs) c).img
    missing h pl k b =
        let z = start-shape x st in
        let f = fine cs pl in
        nothing-comes M S z y (told flex x cs) f (low cs h).image c (call-staged M S z y (told flex x cs) f c) k b

    single : Each SendsByte cs → Plain (past flex x cs)
        → (d : ℕ) × ((k : ℕ) → member k (sectors_in (run flex x cs) (run flex x cs).img) ≡ true → k ≢ d
        → SameSector k (next flex (run flex x cs) c).img (run flex x cs).img)
    single h pl =
        let z = start-shape x st in
        let f = fine cs pl in
        one-changes M S z y (told flex x cs) f (low cs h).image c (call-staged M S z y (told flex x cs) f c)

-- ---- THE THEOREM

cuts : Survivable flex in_order
cuts x st sm cs c h pl m tab short l cl =
    let k = left x st sm cs c h pl m short in
    after-cut x st cs c pl m tab (either x st sm cs c h pl m tab k l cl) (listed x st sm cs c h pl m tab k l cl)

pub power-cut : PowerCut flex in_order
power-cut = record {
  makes = makes;
  cut = cuts;
  nothing = λ x st sm cs c h pl k b tab l cl. undone x st sm cs c h pl _ tab (missing x st sm cs c h pl k b) l cl;
  all = λ x st sm cs c h pl k b tab l cl. done x st sm cs c h pl _ tab (all-comes (run flex x cs) c k b) l cl;
  single = λ x st sm cs c h pl. single x st sm cs c h pl;
  costs = unfinished;
  begins = nights-begin flex in_order demand3 cuts;
  lasts = nights-last flex in_order demand3 cuts;
}
