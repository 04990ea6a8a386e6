-- Lists of calls: a service that is the same to a host as the demands' leaves the same log, image and table, whatever a host calls.
use Rattle.std.specs.Prelude.{◌≡◌, refl, ℕ, ◌<◌, length}
use Rattle.std.proofs.Common.{sym, ◌∙◌, subst, arith}
use Rattle.std.proofs.Math.Path.{ap, ap₂}
use mathlib.Core.List.{List, [], ◌∷◌}
use Rattle.std.proofs.Math.Decide.{ℕ_discrete}
use Rattle.rules.specs.Outcome.{Out, out, on_image, on_block, Told, told, says_of, left_of}
use Rattle.rules.specs.Block.{block_at, preset, extension}
use Rattle.rules.specs.Call.{call}
use Rattle.rules.specs.Image.{last_track, per_track}
use Rattle.rules.specs.Repair.{mended, repair}
use Rattle.laws.specs.Each.{Each}
use Rattle.laws.specs.Small.{Small}
use Rattle.laws.specs.Facts.{Given}
use Rattle.laws.specs.Stores.{length-stored, length-puts}
use Rattle.laws.specs.Effects.{preset-quiet, extension-quiet}
use Rattle.laws.proofs.Effects.{call-lawful}
use Rattle.laws.specs.Blank.{formatted}
use Rattle.mending.specs.Laid.{small-mended}
use Rattle.mending.specs.Accepted.{mended-left}
use Rattle.mending.specs.Repairs.{Answered, repair-is}
use Rattle.demands.specs.Ledger.{Call, setting, extending, asking}
use Rattle.demands.specs.Service.{Wanted, Service, flex, img_of, tab_of, ans_of, byte_of, Machine, Entry, outcome, next, entry, run, log}
use Rattle.served.specs.Entries.{limit, Held, Askable, Same}

-- a call that a host can make
abbrev pub Made : Call → Type 0
Made (setting n i v) = (n < limit) × (i < limit) × (v < 256)
Made (extending n c) = (n < limit) × (c < limit)
Made (asking n b) = (n < limit) × (b < 256)

-- image and table that it can hold
pub record HeldMachine (x : Machine) : Type 0 where
  pub image : Held x.img
  pub table : Held x.tab

-- stores leave what a host can hold
held-as : (m m' : List ℕ) → Held m → length m' ≡ length m → Small m' → Held m'
held-as m m' h l s = record { bytes = s; long = omega (arith, h.long) }

held_next : (x : Machine) → HeldMachine x → (c : Call) → Made c → HeldMachine (next flex x c)
unfolding next outcome
held_next x h (setting n i v) k = record {
  image = h.image;
  table = held-as x.tab _ h.table (length-puts (on_block (preset x.tab n i v)) x.tab (block_at n))
      ((preset-quiet x.img x.tab n i v).0.table_small (record { image = h.image.bytes; table = h.table.bytes; byte = k.2 }));
}
held_next x h (extending n c) k = record {
  image = h.image;
  table = held-as x.tab _ h.table (length-puts (on_block (extension x.tab n c)) x.tab (block_at n))
      ((extension-quiet x.img x.tab n c).0.table_small (record { image = h.image.bytes; table = h.table.bytes; byte = omega arith }));
}
held_next x h (asking n b) k =
    let l = call-lawful x.img x.tab n b in
    let g : Given x.img x.tab b = record { image = h.image.bytes; table = h.table.bytes; byte = k.1 } in
    record {
      image = held-as x.img _ h.image (length-stored (on_image (call x.img x.tab n b)) x.img) (l.image_small g);
      table = held-as x.tab _ h.table (length-puts (on_block (call x.img x.tab n b)) x.tab (block_at n)) (l.table_small g);
    }

-- so it is after any calls
pub held-run : (x : Machine) → HeldMachine x → (cs : List Call) → Each Made cs → HeldMachine (run flex x cs)
unfolding run
held-run x h [] k = h
held-run x h (c ∷ cs) k = held-run (next flex x c) (held_next x h c k.0) cs k.1

-- and after a format
pub held-format : (img : List ℕ) (w : Wanted) → Held img → Askable w → Held (left_of (flex.format img w))
held-format img w h a =
    let f = formatted img w.last w.per w.label w.volume w.month w.day w.year in
    let t = a.typed in
    held-as img _ h f.long (f.small h.bytes t.label t.month t.day t.year)

-- and after a repair
pub held-repair : (img tab : List ℕ) → Held img → Held (left_of (flex.repair img tab))
held-repair img tab h = go (repair img tab) refl
  where
    go : (o : Told) → repair img tab ≡ o → Held (left_of o)
    go (told a m) e = by (ℕ_discrete a 0) (repair-is img tab a m e)
      where
        by : Dec (a ≡ 0) → Answered img tab a m → Held m
        by (no n) r = subst Held (sym (r.kept n)) h
        by (yes n) r =
            let z = r.ready n h.bytes in
            subst Held (sym (r.made n))
            (held-as img (mended img (last_track img) (per_track img)) h (mended-left (last_track img) (per_track img) img z).long (small-mended img (last_track img) (per_track img) h.bytes))

module _ (σ : Service) (s : Same σ flex) where
  outcome-same : (x : Machine) → HeldMachine x → (c : Call) → Made c → outcome σ x c ≡ outcome flex x c
  unfolding outcome
  outcome-same x h (setting n i v) k = ap (λ (o : Told). out (says_of o) 0 x.img (left_of o)) (s.preset x.tab n i v h.table k.0 k.1 k.2)
  outcome-same x h (extending n c) k = ap (λ (o : Told). out (says_of o) 0 x.img (left_of o)) (s.extension x.tab n c h.table k.0 k.1)
  outcome-same x h (asking n b) k = s.call x.img x.tab n b h.image h.table k.0 k.1

  pub runs_same : (x : Machine) → HeldMachine x → (cs : List Call) → Each Made cs → (run σ x cs ≡ run flex x cs) × (log σ x cs ≡ log flex x cs)
  unfolding run log next entry
  runs_same x h [] k = (refl, refl)
  runs_same x h (c ∷ cs) k =
      let e = outcome-same x h c k.0 in
      let n : next σ x c ≡ next flex x c = ap (λ (o : Out). record { img = img_of o; tab = tab_of o }) e in
      let d : entry σ x c ≡ entry flex x c = ap (λ (o : Out). record { made = c; ans = ans_of o; back = byte_of o }) e in
      let ih = runs_same (next flex x c) (held_next x h c k.0) cs k.1 in (
        ap (λ (y : Machine). run σ y cs) n ∙ ih.0,
        ap₂ (λ (y : Entry) (l : List Entry). y ∷ l) d (ap (λ (y : Machine). log σ y cs) n ∙ ih.1),
      )
