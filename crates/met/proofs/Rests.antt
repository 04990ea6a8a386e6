-- A closed file at rest: it stays as it is through every call that does not delete it, but for its name where one renames it.
use Rattle.std.specs.Prelude.{◌≡◌, refl, ◌≢◌, Bool, true, false, ℕ, suc, ◌<◌, length, get_or, eqb}
use Rattle.std.proofs.Common.{sym, ◌∙◌, arith, eq-eqb, ne_eqb, eqb-true}
use Rattle.std.proofs.Math.Path.{ap, subst}
use mathlib.Core.List.{List, [], ◌∷◌}
use Rattle.std.proofs.Math.Decide.{ℕ_discrete, dec_lt}
use Rattle.rules.specs.Bytes.{pick, same}
use Rattle.rules.specs.Directory.{live}
use Rattle.laws.specs.Bytes.{same_refl, same-eq}
use Rattle.laws.specs.Tests.{both}
use Rattle.laws.specs.Addresses.{Shape}
use Rattle.chains.specs.Addresses.{absurd-bool}
use Rattle.demands.specs.Ledger.{Call, setting, extending, asking, File, no_file, Block, closed, Ledger, Request, asks, Fate, denied, granted, reply, slot, file_named, block, file, with_name, called}
use Rattle.met.specs.Relation.{writes}
use Rattle.met.specs.Meets.{Sure, ledger_by}
use Rattle.met.specs.Opens.{legal-live}
use Rattle.met.specs.Tidy.{name_of, Tidy, found-there, found_name}
use Rattle.met.specs.Changes.{Change, Changes, changes, length-grows, rename-legal, Slot, kept, own, fresh, lost, moved, slot-fate, writes-before}
use Rattle.demands.specs.Service.{flex, Machine, answers, next, entry, log}
use Rattle.demands.specs.History.{Scene, then, history, scenes, on_call, Plain, hits, name_after, name_then, ending, changing, Survives, Unnamed}
use Rattle.met.proofs.Runs.{scene_of, Fine, Likewise, asked, beyond, likewise-set, likewise-extend, likewise-refused, likewise-asked, step}

-- slot s has the file f, which is live, and no block writes it
pub record Rests (a : Ledger) (s : ℕ) (f : File) : Type 0 where
  pub is : file a s ≡ f
  pub low : s < length a.slots
  pub alive : live f.name 0 ≡ true
  pub quiet : (m : ℕ) → m < 8 → writes (block a m) ≢ suc s

-- the file after a call that was accepted
abbrev pub titled : File → Bool → List ℕ → File
titled f u nm = pick u (with_name f nm) f

module _ (a : Ledger) (t : Tidy a.slots) (s : ℕ) (f : File) (r : Rests a s f) where
  name-is : name_of a.slots s ≡ f.name
  name-is = ap (λ (g : File). g.name) r.is

  live_here : live (name_of a.slots s) 0 ≡ true
  live_here = ap (λ (x : List ℕ). live x 0) name-is ∙ r.alive

  -- found by its name, and nothing else is
  pub found : file_named f.name a.slots ≡ slot s
  found = subst (λ (x : List ℕ). file_named x a.slots ≡ slot s) name-is (found-there a.slots t s r.low live_here)

  found_back : (nm : List ℕ) → file_named nm a.slots ≡ slot s → nm ≡ f.name
  found_back nm e = found_name nm a.slots t s e ∙ name-is

  module _ (n : ℕ) (q : Request) (hn : n < length a.blocks) (h8 : n < 8) (a' : Ledger) (c : Change a n q a') (spared : q.code ≡ 12 → q.name ≢ f.name) where
    abbrev u : Bool
    u = pick (eqb q.code 13) (same q.name f.name) false

    u-yes : q.code ≡ 13 → q.name ≡ f.name → u ≡ true
    u-yes e v = rw (eq-eqb q.code 13 e, v, same_refl f.name) refl

    file-now : file a' s ≡ titled f u q.rename
    file-now = go (slot-fate a a' n q c s)
      where
        still-so : (w : Bool) → u ≡ w → (q.code ≡ 13 → file_named q.name a.slots ≢ slot s) → titled f w q.rename ≡ f
        still-so false e k = refl
        still-so true e k =
            let p = both (eqb q.code 13) (same q.name f.name) e in
            absurd (k (eqb-true q.code 13 p.0) (ap (λ (x : List ℕ). file_named x a.slots) (same-eq q.name f.name p.1) ∙ found))

        go : Slot a a' n q s → file a' s ≡ titled f u q.rename
        go (kept e k) = e ∙ r.is ∙ sym (still-so u refl k)
        go (own ub e) = absurd (r.quiet n h8 (ap writes e))
        go (fresh e) = absurd-bool live_here e
        go (lost e v by g) = absurd (spared e (found_back q.name v))
        go (moved e v by g) =
            g r.low ∙ ap (λ (x : File). with_name x q.rename) r.is ∙ sym (ap (λ (w : Bool). titled f w q.rename) (u-yes e (found_back q.name v)))

    -- a new name is live
    alive-now : live (titled f u q.rename).name 0 ≡ true
    alive-now = go u refl
      where
        go : (w : Bool) → u ≡ w → live (titled f w q.rename).name 0 ≡ true
        go false e = r.alive
        go true e =
            let p = both (eqb q.code 13) (same q.name f.name) e in
            legal-live q.rename (rename-legal a a' n q c (eqb-true q.code 13 p.0))

    pub rests-on : Rests a' s (titled f u q.rename)
    rests-on =
        record {
          is = file-now;
          low = omega (arith, length-grows a a' n q c, r.low);
          alive = alive-now;
          quiet = λ m hm w. r.quiet m hm (writes-before a a' n q hn c m s w live_here);
        }

-- ---- over the log

-- the name that it gives, if it renames
abbrev new_name : List ℕ → Scene → List ℕ
new_name nm c = on_call c.made nm (λ m b. (asks c.before m b).rename)

pub rests-like : (a a' : Ledger) → Likewise a a' → (s : ℕ) (f : File) → Rests a s f → Rests a' s f
rests-like a a' l s f r = record {
  is = ap (λ (fs : List File). get_or fs s no_file) l.slots ∙ r.is;
  low = omega (arith, ap length l.slots, r.low);
  alive = r.alive;
  quiet = λ m h q. r.quiet m h (ap (λ (bs : List Block). writes (get_or bs m closed)) (sym l.blocks) ∙ q);
}

neither : (u : Bool) → pick u false false ≡ false
neither true = refl
neither false = refl

module _ (M S : ℕ) (z : Shape M S) where
  module _ (x : Machine) (a : Ledger) (g : Fine M S x a) (s : ℕ) (f : File) (r : Rests a s f) where
    -- what was not accepted, or does not ask, leaves it
    left : (c : Call) → Likewise a (then M S a (entry flex x c)) → hits 13 f.name (scene_of M S x a c) ≡ false
        → Rests (then M S a (entry flex x c)) s (titled f (hits 13 f.name (scene_of M S x a c)) (new_name f.name (scene_of M S x a c)))
    left c l h = rw h (rests-like a (then M S a (entry flex x c)) l s f r)

    accepted : (n b : ℕ) → n < 8 → answers flex x (asking n b) ≡ 0 → hits 12 f.name (scene_of M S x a (asking n b)) ≡ false
        → Rests (then M S a (entry flex x (asking n b))) s (titled f (hits 13 f.name (scene_of M S x a (asking n b))) (asks a n b).rename)
    accepted n b h q k =
        let st = asked M S z x a g n b h in
        rests-like (ledger_by a (called M S a n (asks a n b))) (then M S a (entry flex x (asking n b))) (likewise-asked M S x a n b st) s
        (titled f (hits 13 f.name (scene_of M S x a (asking n b))) (asks a n b).rename)
        (rw (eq-eqb (answers flex x (asking n b)) 0 q)
        (by (called M S a n (asks a n b)) (changes M S a n (asks a n b)) st.sure st.ans (rw (eq-eqb (answers flex x (asking n b)) 0 q) at k)))
      where
        by : (φ : Fate) → Changes a n (asks a n b) φ → Sure φ → answers flex x (asking n b) ≡ reply φ
            → pick (eqb (asks a n b).code 12) (same (asks a n b).name f.name) false ≡ false
            → Rests (ledger_by a φ) s (titled f (pick (eqb (asks a n b).code 13) (same (asks a n b).name f.name) false) (asks a n b).rename)
        by (denied v) c su an k = absurd (su (sym an ∙ q))
        by (granted v a' ps) c su an k =
            rests-on a g.tidy s f r n (asks a n b) (omega (arith, g.agrees.nb, h)) h a' c
            (λ p v. absurd-bool (ap (λ (y : List ℕ). same y f.name) v ∙ same_refl f.name) (rw (eq-eqb (asks a n b).code 12 p) at k))

    -- what a call says of the file
    rest-one : (c : Call) → hits 12 f.name (scene_of M S x a c) ≡ false
        → Rests (then M S a (entry flex x c)) s (titled f (hits 13 f.name (scene_of M S x a c)) (new_name f.name (scene_of M S x a c)))
    unfolding entry
    rest-one (setting n i v) k = left (setting n i v) (likewise-set M S a n i v _ _) (neither (eqb (answers flex x (setting n i v)) 0))
    rest-one (extending n c) k = left (extending n c) (likewise-extend M S a n c _ _) (neither (eqb (answers flex x (extending n c)) 0))
    rest-one (asking n b) k = go (ℕ_discrete (answers flex x (asking n b)) 0) (dec_lt n 8)
      where
        go : Dec (answers flex x (asking n b) ≡ 0) → Dec (n < 8)
            → Rests (then M S a (entry flex x (asking n b))) s (titled f (hits 13 f.name (scene_of M S x a (asking n b))) (asks a n b).rename)
        go (no q) h = left (asking n b) (likewise-refused M S a n b _ _ q) (rw (ne_eqb (answers flex x (asking n b)) 0 q) refl)
        go (yes q) (no h) = absurd (omega (arith, q, beyond M S z x a g n b (omega arith)))
        go (yes q) (yes h) = accepted n b h q k

  titled-name : (f : File) (u : Bool) (nm : List ℕ) → (titled f u nm).name ≡ pick u nm f.name
  titled-name f true nm = refl
  titled-name f false nm = refl

  titled-with : (f : File) (u : Bool) (nm nm' : List ℕ) → with_name (titled f u nm) nm' ≡ with_name f nm'
  titled-with f true nm nm' = refl
  titled-with f false nm nm' = refl

  -- it stays through every list of calls that does not delete it, and has then its name of then
  pub rests : (cs : List Call) (x : Machine) (a : Ledger) → Fine M S x a → (s : ℕ) (f : File) → Rests a s f
      → Plain (scenes M S a (log flex x cs)) → Survives ending f.name (scenes M S a (log flex x cs))
      → Rests (history M S a (log flex x cs)) s (with_name f (name_then f.name (scenes M S a (log flex x cs))))
  unfolding log history scenes entry name_then
  rests [] x a g s f r p v = r
  rests (c ∷ cs) x a g s f r p v =
      let sc = scene_of M S x a c in
      let u = hits 13 f.name sc in
      let nn = new_name f.name sc in
      let a' = then M S a (entry flex x c) in
      let ss = scenes M S a' (log flex (next flex x c) cs) in
      let q = titled-name f u nn in
      let y = rests cs (next flex x c) a' ((step M S z x a g c).fine p.0) s (titled f u nn) (rest-one x a g s f r c v.0.0) p.1
      (subst (λ (k : List ℕ). Survives ending k ss) (sym q) v.1) in
      subst (λ (k : File). Rests (history M S a' (log flex (next flex x c) cs)) s k)
      (ap (λ (k : List ℕ). with_name (titled f u nn) (name_then k ss)) q ∙ titled-with f u nn (name_then (pick u nn f.name) ss)) y

  -- a file that is neither deleted nor renamed stays what it is
  unnamed-survives : (nm : List ℕ) (ss : List Scene) → Unnamed changing nm ss → Survives ending nm ss × (name_then nm ss ≡ nm)
  unfolding name_then
  unnamed-survives nm [] v = (tt, refl)
  unnamed-survives nm (c ∷ ss) v =
      let q : name_after nm c ≡ nm = ap (λ (u : Bool). pick u (new_name nm c) nm) v.0.0 in
      let y = unnamed-survives nm ss v.1 in
      ((v.0.1, subst (λ (k : List ℕ). Survives ending k ss) (sym q) y.0), ap (λ (k : List ℕ). name_then k ss) q ∙ y.1)

  pub rests-same : (cs : List Call) (x : Machine) (a : Ledger) → Fine M S x a → (s : ℕ) (f : File) → Rests a s f
      → Plain (scenes M S a (log flex x cs)) → Unnamed changing f.name (scenes M S a (log flex x cs))
      → Rests (history M S a (log flex x cs)) s f
  rests-same cs x a g s f r p v =
      let y = unnamed-survives f.name (scenes M S a (log flex x cs)) v in
      subst (λ (k : List ℕ). Rests (history M S a (log flex x cs)) s (with_name f k)) y.1 (rests cs x a g s f r p y.0)
