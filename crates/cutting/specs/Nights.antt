-- ANY NUMBER OF NIGHTS, each ended by a power cut and a repair: of every service that meets demand 3 and that repair brings back after any one cut.
use Rattle.std.specs.Prelude.{◌≡◌, ◌⊎◌, false, ℕ, ◌+◌, ◌*◌, ◌≤◌, ◌<◌, length, get_or, drop}
use Rattle.std.proofs.Math.Path.{refl}
use Rattle.std.proofs.Common.{sym, ap, ◌∙◌, subst, inl, inr, arith, length-append, lt-ltb}
use mathlib.Core.List.{List, [], ◌∷◌, ◌++◌, append_assoc}
use Rattle.std.proofs.Math.ListN.{get_or-append}
use Rattle.std.proofs.lemmas.Bool.{lt-leb}
use Rattle.rules.specs.Bytes.{within, byte_at, part}
use Rattle.rules.specs.Outcome.{Told, left_of}
use Rattle.rules.specs.Directory.{directory, slots_of, last_of}
use Rattle.laws.specs.Each.{Each, each-so}
use Rattle.laws.specs.Small.{Small}
use Rattle.laws.specs.Slots.{directory-in, rows_of, live_at}
use Rattle.chains.specs.Chain.{pieces}
use Rattle.chains.specs.Directory.{slots-append}
use Rattle.chains.specs.Walk.{chain_at}
use Rattle.demands.specs.Ledger.{Call, Ledger}
use Rattle.demands.specs.Service.{Service, Machine, Entry, run, log}
use Rattle.demands.specs.History.{then, scenes, changing, Unnamed, Plain}
use Rattle.demands.specs.Demands.{last_track_of, per_track_of, Start, begun, told, past, in_slot, sectors_in, slots_in, place_in, AsItWas, Demand3}
use Rattle.demands.specs.Repairs.{mended, LiveFile}
use Rattle.demands.specs.Cuts.{Order, left_with, Recovered, Night, called, Retried, storing, copied, morning, nights, Untouched, Passes, Pass, Survivable}
use Rattle.met.specs.Searches.{part-part}
use Rattle.met.specs.Joins.{log-append, plain-before}
use Rattle.met.proofs.Runs.{start-shape}

-- ---- calls keep the shape, whatever service makes them: bytes 550 and 551 are none that a call may name

low-slots : (os : List ℕ) (p : ℕ) → p < 1024 → Each (λ (o : ℕ). 1024 ≤ o) os → in_slot p os ≡ false
unfolding in_slot within
low-slots [] p h e = refl
low-slots (o ∷ os) p h e = rw (lt-leb o p (omega (arith, e.0))) (low-slots os p h e.1)

low-last : (ks : List ℕ) (k : ℕ) → 4 ≤ k → Each (λ (j : ℕ). 4 ≤ j) ks → 4 ≤ last_of ks k
low-last [] k h e = h
low-last (j ∷ ks) k h e = low-last ks j e.0 e.1

module _ (σ : Service) (d : Demand3 σ) (x : Machine) (st : Start x) (cs : List Call) (pl : Plain (past σ x cs)) where
  shape-byte : (p : ℕ) → p < 1024 → within 541 546 p ≡ false → byte_at (run σ x cs).img p ≡ byte_at x.img p
  unfolding within
  shape-byte p h u =
      let z = start-shape x st in
      let ds = directory-in x.img (last_track_of x) (per_track_of x) z.sectors in
      let ks : Each (λ (k : ℕ). 4 ≤ k) (sectors_in x x.img) = each-so _ (λ (k : ℕ). 4 ≤ k) (sectors_in x x.img) (λ k e. e.0) ds in
      let os : Each (λ (o : ℕ). 1024 ≤ o) (slots_in x x.img) =
      each-so _ (λ (o : ℕ). 1024 ≤ o) (slots_in x x.img) (λ o e. omega (arith, e.0)) (rows_of (λ (k : ℕ). 4 ≤ k) (sectors_in x x.img) ks) in
      let l = low-last (sectors_in x x.img) 4 (omega arith) ks in
      (d x st cs pl).stays p (rw (lt-ltb p (256 * per_track_of x) (omega (arith, z.sectors))) refl) u
      (low-slots (slots_in x x.img) p h os) (rw (lt-leb (256 * last_of (sectors_in x x.img) 4) p (omega (arith, l))) refl)

  shape-run : (last_track_of (run σ x cs) ≡ last_track_of x) × (per_track_of (run σ x cs) ≡ per_track_of x)
  unfolding within
  shape-run = (shape-byte 550 (omega arith) refl, shape-byte 551 (omega arith) refl)

-- ---- a machine that carries the file of slot s on: the same shape, the slots where they stood, new ones behind them, and the file as it was

record Carries (x y : Machine) (s : ℕ) : Type 0 where
  pub shape : (last_track_of y ≡ last_track_of x) × (per_track_of y ≡ per_track_of x)
  pub more : List ℕ
  pub places : slots_in y y.img ≡ slots_in x x.img ++ more
  pub kept : AsItWas x y.img s

module _ (x y : Machine) (s : ℕ) (f : LiveFile x s) (c : Carries x y s) where
  same_place : place_in y s ≡ place_in x s
  same_place = ap (λ (os : List ℕ). get_or os s 0) c.places ∙ get_or-append (slots_in x x.img) c.more 0 s f.slot

  -- its name, which are the first eleven of the 24 bytes
  same_name : part y.img (place_in y s) 11 ≡ part x.img (place_in x s) 11
  same_name = ap (λ (o : ℕ). part y.img o 11) same_place ∙ first-eleven y.img x.img (place_in x s) c.kept.slot
    where
      first-eleven : (m m' : List ℕ) (o : ℕ) → part m o 24 ≡ part m' o 24 → part m o 11 ≡ part m' o 11
      first-eleven m m' o e =
          let eleven : (l : List ℕ) → part (part l o 24) 0 11 ≡ part l o 11 = λ l. part-part l o 24 0 11 (omega arith) ∙ ap (λ (p : ℕ). part l p 11) (omega arith) in
          sym (eleven m) ∙ ap (λ (l : List ℕ). part l 0 11) e ∙ eleven m'

  still-live : LiveFile y s
  still-live = record {
    slot = omega (arith, f.slot, ap length c.places, length-append (slots_in x x.img) c.more);
    alive = live_at y.img (part x.img (place_in x s) 11) (place_in y s) same_name
        ∙ sym (live_at x.img (part x.img (place_in x s) 11) (place_in x s) refl) ∙ f.alive;
  }

  -- what then is as it was there is as it was here
  as-it-was-then : (img : List ℕ) → AsItWas y img s → AsItWas x img s
  as-it-was-then img e =
      let same-chain : (m : List ℕ) → chain_at (per_track_of y) m (place_in y s + 13) ≡ chain_at (per_track_of x) m (place_in x s + 13) =
      λ m. ap (λ (p : ℕ). chain_at p m (place_in y s + 13)) c.shape.1 ∙ ap (λ (o : ℕ). chain_at (per_track_of x) m (o + 13)) same_place in
      let its-chain = same-chain y.img ∙ c.kept.sectors in
      record {
        slot = subst (λ (o : ℕ). part img o 24 ≡ part y.img o 24) same_place e.slot ∙ c.kept.slot;
        sectors = sym (same-chain img) ∙ e.sectors ∙ its-chain;
        bytes = subst (λ (ks : List ℕ). pieces 0 256 img ks ≡ pieces 0 256 y.img ks) its-chain e.bytes ∙ c.kept.bytes;
      }

  carries-then : (z : Machine) → Carries y z s → Carries x z s
  carries-then z e = record {
    shape = (e.shape.0 ∙ c.shape.0, e.shape.1 ∙ c.shape.1);
    more = c.more ++ e.more;
    places = e.places ∙ ap (λ (os : List ℕ). os ++ e.more) c.places ∙ append_assoc (slots_in x x.img) c.more e.more;
    kept = as-it-was-then z.img e.kept;
  }

-- ---- one night

module _ (σ : Service) (d : Demand3 σ) (x : Machine) (st : Start x) (cs : List Call) (pl : Plain (past σ x cs)) where
  abbrev y : Machine
  y = run σ x cs

  same-sectors : (img : List ℕ) → sectors_in y img ≡ sectors_in x img
  same-sectors img = let e = shape-run σ d x st cs pl in ap (λ (m : ℕ). directory img m (per_track_of y)) e.0 ∙ ap (directory img (last_track_of x)) e.1

  -- the calls of the night carry on a file that none of them deletes or renames
  carries-run : (s : ℕ) → LiveFile x s → Unnamed changing (part x.img (place_in x s) 11) (past σ x cs) → Carries x (run σ x cs) s
  carries-run s f u =
      let snd = d x st cs pl in
      record {
        shape = shape-run σ d x st cs pl;
        more = drop (length (slots_in x x.img)) (slots_in x y.img);
        places = ap slots_of (same-sectors y.img) ∙ snd.stood;
        kept = snd.spared s f.slot f.alive u;
      }

  -- and so does the repair of what was left
  carries-repair : (most : ℕ) (m tab : List ℕ) → Recovered σ (run σ x cs) (told σ x cs) most m tab → (s : ℕ) → LiveFile (run σ x cs) s
      → Carries (run σ x cs) (mended σ (left_with m tab)) s
  carries-repair most m tab r s f =
      let z = mended σ (left_with m tab) in
      let here : sectors_in y y.img ≡ (told σ x cs).dir = same-sectors y.img ∙ (d x st cs pl).sectors in
      let there : sectors_in z z.img ≡ (told σ x cs).dir ++ r.gained =
      ap (λ (t : ℕ). directory z.img t (per_track_of z)) r.shape.0 ∙ ap (directory z.img (last_track_of y)) r.shape.1 ∙ r.sectors in
      record {
        shape = r.shape;
        more = slots_of r.gained;
        places = ap slots_of there ∙ slots-append (told σ x cs).dir r.gained ∙ ap (λ (ks : List ℕ). slots_of ks ++ slots_of r.gained) (sym here);
        kept = r.whole s f;
      }

  carries-night : (most : ℕ) (m tab : List ℕ) → Recovered σ (run σ x cs) (told σ x cs) most m tab → (s : ℕ) → LiveFile x s
      → Unnamed changing (part x.img (place_in x s) 11) (past σ x cs) → Carries x (mended σ (left_with m tab)) s
  carries-night most m tab r s f u =
      let c = carries-run s f u in
      carries-then x y s f c (mended σ (left_with m tab)) (carries-repair most m tab r s (still-live x y s f c))

-- what no call of a list names no call of its front does
module _ (M S : ℕ) (nm : List ℕ) where
  unnamed-front : (es fs : List Entry) (a : Ledger) → Unnamed changing nm (scenes M S a (es ++ fs)) → Unnamed changing nm (scenes M S a es)
  unfolding scenes
  unnamed-front [] fs a u = tt
  unnamed-front (e ∷ es) fs a u = (u.0, unnamed-front es fs (then M S a e) u.1)

  unnamed-before : (σ : Service) (cs ds : List Call) (x : Machine) (a : Ledger) → Unnamed changing nm (scenes M S a (log σ x (cs ++ ds)))
      → Unnamed changing nm (scenes M S a (log σ x cs))
  unnamed-before σ cs ds x a u =
      unnamed-front (log σ x cs) (log σ (run σ x cs) ds) a (subst (λ (es : List Entry). Unnamed changing nm (scenes M S a es)) (log-append σ cs ds x) u)

module _ (σ : Service) (w : Order) (d : Demand3 σ) (cut : Survivable σ w) (x : Machine) (st : Start x) (sm : Small x.tab) (ν : Night) (p : Passes σ w x ν) where
  either : Recovered σ (run σ x ν.calls) (told σ x ν.calls) 1 ν.left ν.table
      ⊎ Recovered σ (run σ x (called ν)) (told σ x (called ν)) 0 ν.left ν.table
  either = (cut x st sm ν.calls ν.last p.bytes p.plain ν.left ν.table p.short p.table p.closed).either

  -- repairs that were broken off change nothing of what the last one leaves
  same-morning : (y : Machine) (a : Ledger) (most : ℕ) → Recovered σ y a most ν.left ν.table → mended σ (left_with ν.left ν.table) ≡ morning σ ν
  same-morning y a most r = go p.found
    where
      go : Retried σ ν.left ν.table ν.found → mended σ (left_with ν.left ν.table) ≡ morning σ ν
      go (storing ws e) =
          ap (λ (o : Told). left_with (left_of o) ν.table) (sym (ap (λ (m : List ℕ). σ.repair m ν.table) e ∙ r.resumes ws ν.table p.table p.closed))
      go (copied l v) = ap (λ (o : Told). left_with (left_of o) ν.table) (sym (r.recopies ν.found ν.table l v p.table p.closed))

  begins-again : Start (morning σ ν)
  begins-again = go either
    where
      by : (y : Machine) (a : Ledger) (most : ℕ) → Recovered σ y a most ν.left ν.table → Start (morning σ ν)
      by y a most r = subst Start (same-morning y a most r) r.begins

      go : Recovered σ (run σ x ν.calls) (told σ x ν.calls) 1 ν.left ν.table
          ⊎ Recovered σ (run σ x (called ν)) (told σ x (called ν)) 0 ν.left ν.table → Start (morning σ ν)
      go (inl r) = by (run σ x ν.calls) (told σ x ν.calls) 1 r
      go (inr r) = by (run σ x (called ν)) (told σ x (called ν)) 0 r

  carries-on : (s : ℕ) → LiveFile x s → Unnamed changing (part x.img (place_in x s) 11) (past σ x (called ν)) → Carries x (morning σ ν) s
  carries-on s f u = go either
    where
      by : (cs : List Call) → Plain (past σ x cs) → Unnamed changing (part x.img (place_in x s) 11) (past σ x cs) → (most : ℕ)
          → Recovered σ (run σ x cs) (told σ x cs) most ν.left ν.table → Carries x (morning σ ν) s
      by cs pl un most r =
          subst (λ (y : Machine). Carries x y s) (same-morning (run σ x cs) (told σ x cs) most r) (carries-night σ d x st cs pl most ν.left ν.table r s f un)

      go : Recovered σ (run σ x ν.calls) (told σ x ν.calls) 1 ν.left ν.table
          ⊎ Recovered σ (run σ x (called ν)) (told σ x (called ν)) 0 ν.left ν.table → Carries x (morning σ ν) s
      go (inl r) =
          by ν.calls (plain-before (last_track_of x) (per_track_of x) σ ν.calls (ν.last ∷ []) x (begun x) p.plain)
          (unnamed-before (last_track_of x) (per_track_of x) (part x.img (place_in x s) 11) σ ν.calls (ν.last ∷ []) x (begun x) u) 1 r
      go (inr r) = by (called ν) p.plain u 0 r

-- ---- ANY NUMBER OF NIGHTS

module _ (σ : Service) (w : Order) (d : Demand3 σ) (cut : Survivable σ w) where
  -- every morning is a start
  pub nights-begin : (x : Machine) → Start x → Small x.tab → (νs : List Night) → Pass σ w x νs → Start (nights σ x νs)
  unfolding nights
  nights-begin x st sm [] p = st
  nights-begin x st sm (ν ∷ νs) p = nights-begin (morning σ ν) (begins-again σ w d cut x st sm ν p.0) p.0.small νs p.1

  -- a file that no call deletes or renames keeps all
  pub nights-last : (x : Machine) → Start x → Small x.tab → (νs : List Night) → Pass σ w x νs → (s : ℕ) → LiveFile x s
      → Untouched σ (part x.img (place_in x s) 11) x νs → AsItWas x (nights σ x νs).img s
  unfolding nights
  nights-last x st sm [] p s f u = record { slot = refl; sectors = refl; bytes = refl }
  nights-last x st sm (ν ∷ νs) p s f u =
      let y = morning σ ν in
      let c = carries-on σ w d cut x st sm ν p.0 s f u.0 in
      as-it-was-then x y s f c (nights σ y νs).img
      (nights-last y (begins-again σ w d cut x st sm ν p.0) p.0.small νs p.1 s (still-live x y s f c)
      (subst (λ (nm : List ℕ). Untouched σ nm y νs) (sym (same_name x y s f c)) u.1))
