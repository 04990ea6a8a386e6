-- Repair of our service: what it answers; what one that answers 0 leaves.
use Rattle.std.specs.Prelude.{◌≡◌, ◌⊎◌, Bool, not, ℕ, zero, suc, ◌+◌, ◌*◌, ◌/◌, ◌%◌, ◌≤◌, ◌<◌, length, get_or, take, eqb, ltb}
use Rattle.std.proofs.Math.Path.{refl}
use Rattle.std.proofs.Common.{sym, ap, ap₂, ◌∙◌, subst, inl, inr, arith, eq-eqb, eqb-true, lt-ltb, le-ltb}
use Rattle.std.proofs.Math.Bool.{true, false}
use mathlib.Core.List.{List, [], ◌∷◌, ◌++◌}
use Rattle.std.proofs.Math.Decide.{ℕ_discrete, dec_lt}
use Rattle.rules.specs.Bytes.{pick, within, byte_at, flat, zeros}
use Rattle.rules.specs.Stores.{stored}
use Rattle.rules.specs.Image.{last_track, per_track, index, is_data, link_of}
use Rattle.rules.specs.Directory.{live, member, directory, slots, slots_of, start_at, size_at}
use Rattle.rules.specs.Outcome.{Told, told, says_of, left_of}
use Rattle.rules.specs.Block.{block_at, activity_in}
use Rattle.rules.specs.Census.{file_right}
use Rattle.rules.specs.Repair.{all_closed, all_of, others, kept_in, free_in, repair_stores, mended as mended_rule, repair, kept_from, kept_by}
use Rattle.laws.specs.Tests.{never, both, neither, within-true, pick_all, either}
use Rattle.laws.specs.Bytes.{length-zeros, part_same}
use Rattle.laws.specs.Each.{chosen}
use Rattle.laws.specs.Small.{Small}
use Rattle.chains.specs.Tally.{tally, tally-append, member-in, member-no, in-member, no_member}
use Rattle.chains.specs.Chain.{pieces-same}
use Rattle.chains.specs.Files.{sectors_at, sectors_in as files_sectors, RightAt}
use Rattle.mending.specs.Kept.{behind}
use Rattle.mending.specs.Shares.{others-range, keeps-held}
use Rattle.mending.specs.Laid.{small-mended}
use Rattle.mending.specs.Accepted.{Ready, free-or-held, mended-left, mended-sized, mended-directory, free_back, mended-keeps}
use Rattle.mending.specs.Spared.{Spared, spared, spared-sound, Cut, cut}
use Rattle.mending.specs.Repairs.{AllClosed, Answered, repair-is, repair-done, repair-whole, repair-made, repair-accepted, repair-other, repair-again}
use Rattle.mending.specs.Halfway.{behind-last}
use Rattle.mending.specs.Resumed.{repair-resumed, repair-copied}
use Rattle.demands.specs.Service.{flex, Machine}
use Rattle.demands.specs.Demands.{last_track_of, per_track_of, data_sectors, survey_answer, sectors_in, place_in, chain_of, AsItWas, Begins, Closed, Start}
use Rattle.demands.specs.Repairs.{repairs, mended, LiveFile, RightlyChained, Has, SharesNothing, TakenByNone, in_record, mends, broken_off, next_of, KeptUpTo, free_of, files_of, Rises, Repaired, FromRepair, reach_of}
use Rattle.met.proofs.Runs.{start-sane}

told_is : (o : Told) → o ≡ told (says_of o) (left_of o)
told_is (told a m) = refl

-- whatever it answers
pub repaired : (img tab : List ℕ) → Answered img tab (says_of (repair img tab)) (left_of (repair img tab))
repaired img tab = repair-is img tab _ _ (told_is (repair img tab))

-- ---- the table

closed_all : (tab : List ℕ) → Closed tab → (c : ℕ) → c ≤ 8 → all_closed tab c ≡ true
unfolding all_closed
closed_all tab h zero b = refl
closed_all tab h (suc c) b = rw (eq-eqb (activity_in tab (block_at c)) 0 (h c (omega arith))) (closed_all tab h c (omega arith))

pub closed-table : (tab : List ℕ) → length tab ≡ 2560 → Closed tab → AllClosed tab
closed-table tab l c = record { long = eq-eqb (length tab) 2560 l; closed = closed_all tab c 8 (omega arith) }

all_closed_lem : (tab : List ℕ) (c : ℕ) → all_closed tab c ≡ true → (n : ℕ) → n < c → activity_in tab (320 * n) ≡ 0
unfolding all_closed
all_closed_lem tab zero h n b = absurd (omega arith)
all_closed_lem tab (suc c) h n b = go (both (eqb (activity_in tab (block_at c)) 0) (all_closed tab c) h) (λ k l. all_closed_lem tab c k n l) (ℕ_discrete n c)
  where
    go : (eqb (activity_in tab (block_at c)) 0 ≡ true) × (all_closed tab c ≡ true) → (all_closed tab c ≡ true → n < c → activity_in tab (320 * n) ≡ 0) → Dec (n ≡ c)
        → activity_in tab (320 * n) ≡ 0
    go p ih (yes e) = ap (λ (k : ℕ). activity_in tab (320 * k)) e ∙ eqb-true (activity_in tab (block_at c)) 0 p.0
    go p ih (no e) = ih p.1 (omega arith)

-- ---- lists

begins-take : (n : ℕ) (vs : List ℕ) → Begins (take n vs) vs
begins-take zero vs = refl
begins-take (suc n) [] = refl
begins-take (suc n) (v ∷ vs) = ap (λ (l : List ℕ). v ∷ l) (begins-take n vs)

take_begins : (n : ℕ) (us vs : List ℕ) → us ≡ take n vs → Begins us vs
take_begins n us vs e = subst (λ (l : List ℕ). Begins l vs) (sym e) (begins-take n vs)

-- ---- what is kept: where less is held, the same and more

kept_more : (img : List ℕ) (M S n : ℕ) (held less : List ℕ) (a : ℕ) → ((x : ℕ) → member x held ≡ false → member x less ≡ false)
    → (k : ℕ) → member k (kept_from img M S n held a) ≡ true → member k (kept_from img M S n less a) ≡ true
unfolding kept_from member
kept_more img M S zero held less a sub k h = h
kept_more img M S (suc n) held less a sub k h =
    go (is_data M S a) (member (index S a) held) refl h
    (kept_more img M S n (index S a ∷ held) (index S a ∷ less) (link_of img (index S a)) (λ x e. let q = neither (eqb (index S a) x) (member x held) e in rw q.0 (sub x q.1)) k)
  where
    go : (u v : Bool) → member (index S a) held ≡ v
        → member k (pick u (pick v [] (index S a ∷ kept_from img M S n (index S a ∷ held) (link_of img (index S a)))) []) ≡ true
        → (member k (kept_from img M S n (index S a ∷ held) (link_of img (index S a))) ≡ true → member k (kept_from img M S n (index S a ∷ less) (link_of img (index S a))) ≡ true)
        → member k (pick u (pick (member (index S a) less) [] (index S a ∷ kept_from img M S n (index S a ∷ less) (link_of img (index S a)))) []) ≡ true
    go false v e h ih = absurd (never h)
    go true true e h ih = absurd (never h)
    go true false e h ih =
        rw (sub (index S a) e)
        (either (eqb (index S a) k) (member k (kept_from img M S n (index S a ∷ held) (link_of img (index S a)))) h (λ q. rw q refl) (λ q. either_way (eqb (index S a) k) (ih q)))
      where
        either_way : (u : Bool) {w : Bool} → w ≡ true → pick u true w ≡ true
        either_way true e = refl
        either_way false e = e

-- ---- bytes that repair does not store

not-in-record : (img os : List ℕ) (p : ℕ) → in_record img p os ≡ false → (s : ℕ) → s < length os → live img (get_or os s 0) ≡ true → get_or os s 0 + 13 ≤ p
    → p < get_or os s 0 + 20 → ⊥
unfolding in_record
not-in-record img [] p h s b v u w = absurd (omega arith)
not-in-record img (o ∷ os) p h zero b v u w =
    never (sym (rw v at (neither (pick (live img o) (within (o + 13) (o + 19) p) false) (in_record img p os) h).0) ∙ within-true (o + 13) (o + 19) p u (omega arith))
not-in-record img (o ∷ os) p h (suc s) b v u w =
    not-in-record img os p (neither (pick (live img o) (within (o + 13) (o + 19) p) false) (in_record img p os) h).1 s (omega arith) v u w

-- the link of a sector behind track 0 is not the directory's, or it may change
link-of-directory : (S p : ℕ) (ds : List ℕ) → pick (ltb p (256 * S)) false (pick (member (p / 256) ds) false (ltb (p % 256) 2)) ≡ false
    → (k : ℕ) → S ≤ k → 256 * k ≤ p → p < 256 * k + 2 → 1 ≤ tally k ds
link-of-directory S p ds h k a b c = go (member (p / 256) ds) refl (rw (le-ltb p (256 * S) (omega arith), lt-ltb (p % 256) 2 (omega arith)) at h)
  where
    go : (u : Bool) → member (p / 256) ds ≡ u → pick u false true ≡ false → 1 ≤ tally k ds
    go true e q = in-member k ds (ap (λ (j : ℕ). member j ds) (omega arith) ∙ e)
    go false e q = absurd (never (sym q))

-- ---- what is free

others-rise : (held : List ℕ) (n k : ℕ) → Rises (others held n k)
unfolding others
others-rise held zero k = tt
others-rise held (suc n) k =
    let l = others held n (k + 1) in
    pick_all Rises (member k held) l (k ∷ l) (others-rise held n (k + 1))
    ((λ j h. omega (arith, (others-range held n (k + 1) j (in-member j l h)).0)), others-rise held n (k + 1))

member-other : (k : ℕ) (a b : List ℕ) → tally k a + tally k b ≡ 1 → member k a ≡ not (member k b)
member-other k a b h = go (tally k b) refl
  where
    go : (c : ℕ) → tally k b ≡ c → member k a ≡ not (member k b)
    go zero e = member-in k a (omega arith) ∙ ap not (sym (member-no k b e))
    go (suc c) e = member-no k a (omega arith) ∙ ap not (sym (member-in k b (omega arith)))

all-files : (S : ℕ) (m os : List ℕ) → flat (sectors_at S m) os ≡ all_of (files_sectors S m os)
all-files S m [] = refl
all-files S m (o ∷ os) = ap (λ (l : List ℕ). sectors_at S m o ++ l) (all-files S m os)

-- the place of a list that a member of all stands in
pub record Among (n k : ℕ) (ls : List (List ℕ)) : Type 0 where
  pub place : ℕ
  pub below : place < n
  pub in_it : 1 ≤ tally k (get_or ls place [])

among : (n k : ℕ) (ls : List (List ℕ)) → 1 ≤ tally k (all_of (take n ls)) → Among n k ls
among zero k ls h = absurd (omega arith)
among (suc n) k [] h = absurd (omega arith)
among (suc n) k (l ∷ ls) h = go (tally k l) refl (λ e. among n k ls (omega (arith, h, e, tally-append k l (all_of (take n ls)))))
  where
    go : (c : ℕ) → tally k l ≡ c → (tally k l ≡ 0 → Among n k ls) → Among (suc n) k (l ∷ ls)
    go zero e ih =
        let w = ih e in
        record { place = suc w.place; below = omega (arith, w.below); in_it = w.in_it }
    go (suc c) e ih = record { place = 0; below = omega arith; in_it = omega (arith, e) }

-- ---- after 0

module _ (x : Machine) (small : Small x.img) (e : repairs flex x ≡ 0) where
  abbrev M : ℕ
  M = last_track_of x

  abbrev S : ℕ
  S = per_track_of x

  abbrev m : List ℕ
  m = (mended flex x).img

  is : repair x.img x.tab ≡ told 0 m
  is = told_is (repair x.img x.tab) ∙ ap (λ (a : ℕ). told a m) e

  ready : Ready M S x.img
  ready = repair-whole x.img x.tab m small is

  made : m ≡ mended_rule x.img M S
  made = repair-made x.img x.tab m small is

  table : AllClosed x.tab
  table = (repaired x.img x.tab).table e

  sectors : data_sectors m ≡ M * S
  sectors = ap data_sectors made ∙ ap₂ (λ (u v : ℕ). u * v) (mended-sized M S x.img ready).last (mended-sized M S x.img ready).per

  begins : Start (mended flex x)
  begins =
      let l = length-zeros (data_sectors m) ∙ sectors in
      record {
        accepted = ap survey_answer (repair-accepted x.img x.tab m small is (zeros (data_sectors m)) (zeros (data_sectors m)) l l);
        bytes = rw made (small-mended x.img M S small);
        table = eqb-true (length x.tab) 2560 table.long;
        closed = all_closed_lem x.tab 8 table.closed;
      }

  -- ---- the file in slot s
  module _ (s : ℕ) (f : LiveFile x s) where
    left : Cut M S x.img ready s (get_or (kept_in x.img M S) s [])
    left = cut M S x.img ready s f.slot f.alive

    as_it_was : Spared M S x.img ready s (chain_of x x.img s) → AsItWas x m s
    as_it_was p =
        rw made
        (record {
          slot = part_same x.img (mended_rule x.img M S) _ _ 24 p.slot;
          sectors = left.chain ∙ p.sectors;
          bytes = pieces-same 0 256 x.img (mended_rule x.img M S) (chain_of x x.img s) (λ k i t a b. p.bytes k i t b);
        })

    right : RightlyChained x s → RightAt M S x.img (get_or (slots x.img M S) s 0)
    unfolding file_right
    right h = rw f.alive at h

    taken-by-none : RightlyChained x s → TakenByNone x s → AsItWas x m s
    taken-by-none h t =
        as_it_was
        (spared M S x.img ready s f.slot f.alive (right h)
        (λ k c. no_member k (directory x.img M S) (t.directory k (member-in k (chain_of x x.img s) c)))
        (λ j k b c. no_member k (get_or (kept_in x.img M S) j []) (t.earlier j k b (member-in k (chain_of x x.img s) c))))

  -- what a slot keeps it reaches
  reached : (t k : ℕ) → t < length (slots x.img M S) → member k (get_or (kept_in x.img M S) t []) ≡ true → LiveFile x t × (member k (reach_of x t) ≡ true)
  unfolding kept_by member
  reached t k b c =
      let w = keeps-held M S ready.shape x.img (directory x.img M S) (slots x.img M S) t b in
      go w.0 (live x.img (get_or (slots x.img M S) t 0)) refl (ap (member k) (sym w.1) ∙ c)
    where
      go : (held : List ℕ) (u : Bool) → live x.img (get_or (slots x.img M S) t 0) ≡ u
          → member k (pick u (kept_from x.img M S (size_at x.img (place_in x t)) held (start_at x.img (place_in x t))) []) ≡ true
          → LiveFile x t × (member k (reach_of x t) ≡ true)
      go held false v h = absurd (never h)
      go held true v h = (
        record { slot = b; alive = v },
        kept_more x.img M S (size_at x.img (place_in x t)) held [] (start_at x.img (place_in x t)) (λ y e. refl) k h,
      )

  taken : (s : ℕ) → LiveFile x s → SharesNothing x s → TakenByNone x s
  taken s f h = record { directory = h.directory; earlier = λ t k b c. go t k b c (member k (get_or (kept_in x.img M S) t [])) refl }
    where
      go : (t k : ℕ) → t < s → Has x s k → (u : Bool) → member k (get_or (kept_in x.img M S) t []) ≡ u → u ≡ false
      go t k b c false e = refl
      go t k b c true e =
          let o = reached t k (omega (arith, b, f.slot)) e in absurd (never (sym (h.files t k (omega arith) o.0 c) ∙ o.1))

  -- ---- where a file is cut

  next-behind : (s : ℕ) (l : List ℕ) → next_of x s l ≡ behind x.img (start_at x.img (place_in x s)) l
  next-behind s [] = refl
  next-behind s (k ∷ l) = sym (behind-last x.img (start_at x.img (place_in x s)) (k ∷ l) (omega arith))

  kept-up-to : (s k : ℕ) → s < length (slots x.img M S) → Among (suc s) k (kept_in x.img M S) → KeptUpTo flex x s k
  kept-up-to s k b w =
      let o = reached w.place k (omega (arith, w.below, b)) (member-in k (get_or (kept_in x.img M S) w.place []) w.in_it) in
      record {
        slot = w.place;
        upto = omega (arith, w.below);
        file = o.0;
        has = rw (made, (left w.place o.0).chain) (member-in k (get_or (kept_in x.img M S) w.place []) w.in_it);
      }

  longest : (s : ℕ) → LiveFile x s → (l : List ℕ) → l ≡ get_or (kept_in x.img M S) s [] → length l < size_at x.img (place_in x s) → is_data M S (next_of x s l) ≡ true
      → (member (index S (next_of x s l)) (sectors_in x x.img) ≡ true) ⊎ KeptUpTo flex x s (index S (next_of x s l))
  longest s f l e c d = go (tally k (directory x.img M S)) refl
    where
      k : ℕ
      k = index S (next_of x s l)

      e' : next_of x s l ≡ behind x.img (start_at x.img (place_in x s)) (get_or (kept_in x.img M S) s [])
      e' = next-behind s l ∙ ap (behind x.img (start_at x.img (place_in x s))) e

      t : 1 ≤ tally k (all_of (take (suc s) (kept_in x.img M S)) ++ directory x.img M S)
      t = rw e' ((left s f).longest (omega (arith, c, ap length e)) (ap (is_data M S) (sym e') ∙ d))

      go : (n : ℕ) → tally k (directory x.img M S) ≡ n → (member k (sectors_in x x.img) ≡ true) ⊎ KeptUpTo flex x s k
      go (suc n) q = inl (member-in k (directory x.img M S) (omega (arith, q)))
      go zero q =
          inr (kept-up-to s k f.slot (among (suc s) k (kept_in x.img M S)
          (omega (arith, t, q, tally-append k (all_of (take (suc s) (kept_in x.img M S))) (directory x.img M S)))))

  -- ---- the free chain

  free-is : free_of x m ≡ free_in x.img M S
  free-is = ap (λ (u : List ℕ). free_of x u) made ∙ (free_back M S x.img ready).0

  held-is : files_of x m ++ sectors_in x m ≡ all_of (kept_in x.img M S) ++ directory x.img M S
  held-is =
      ap (λ (u : List ℕ). files_of x u ++ sectors_in x u) made
      ∙ ap (λ (ds : List ℕ). flat (sectors_at S (mended_rule x.img M S)) (slots_of ds) ++ ds) (mended-directory M S x.img ready).1
      ∙ ap (λ (l : List ℕ). l ++ directory x.img M S)
      (all-files S (mended_rule x.img M S) (slots x.img M S) ∙ ap all_of (mended-keeps M S x.img ready))

  -- ---- broken off

  broken-off : (ws : List (List Bool)) (img tab : List ℕ) → Small img → repair img x.tab ≡ told 0 m → AllClosed tab → repair (broken_off img ws) tab ≡ told 0 m
  broken-off [] img tab s h t = repair-done (last_track img) (per_track img) img tab (repair-whole img x.tab m s h) t ∙ ap (told 0) (sym (repair-made img x.tab m s h))
  broken-off (w ∷ ws) img tab s h t =
      let r = repair-resumed img x.tab m s h w in
      broken-off ws (stored img (chosen w (repair_stores img (last_track img) (per_track img)))) tab r.bytes (r.repairs x.tab table) t

  module _ (p : ℕ) (h : mends x p ≡ false) where
    not_there : (541 ≤ p → p < 547 → ⊥)
        × ((in_record x.img p (slots x.img M S) ≡ false) × ((k : ℕ) → S ≤ k → 256 * k ≤ p → p < 256 * k + 2 → 1 ≤ tally k (directory x.img M S)))
    not_there =
        let q = neither (within 541 546 p) _ h in
        let t = neither (in_record x.img p (slots x.img M S)) _ q.1 in
        ((λ a b. never (sym q.0 ∙ within-true 541 546 p a (omega arith))), (t.0, link-of-directory S p (directory x.img M S) t.1))

    other : ((k : ℕ) → S ≤ k → k < (M + 1) * S → 256 * k ≤ p → p < 256 * k + 2 → ⊥) → byte_at m p ≡ byte_at x.img p
    other n =
        repair-other x.img x.tab m small is p n not_there.0 (not-in-record x.img (slots x.img M S) p not_there.1.0)

    touches : byte_at m p ≡ byte_at x.img p
    touches = go (dec_lt (p % 256) 2) (dec_lt p (256 * S))
      where
        go : Dec (p % 256 < 2) → Dec (p < 256 * S) → byte_at m p ≡ byte_at x.img p
        go (no a) b = other (λ k u v y z. omega arith)
        go (yes a) (yes b) = other (λ k u v y z. omega arith)
        go (yes a) (no b) =
            ap (λ (u : List ℕ). byte_at u p) made
            ∙ subst (λ (j : ℕ). byte_at (mended_rule x.img M S) j ≡ byte_at x.img j) (omega arith)
            ((mended-left M S x.img ready).aside.directory (p / 256) (p % 256) (not_there.1.1 (p / 256) (omega arith) (omega arith) (omega arith)) a)

  pub mended-well : Repaired flex x
  mended-well = record {
    begins = begins;
    spares = λ s f h t. taken-by-none s f h (taken s f t);
    spares_first = taken-by-none;
    spares_all = λ st s f. as_it_was s f (spared-sound M S x.img ready (start-sane x st) s f.slot f.alive);
    cuts = λ s f. (
      rw (made, (left s f).chain) (take_begins (length (get_or (kept_in x.img M S) s [])) _ _ (left s f).sectors),
      rw (made, (left s f).chain) (take_begins (252 * length (get_or (kept_in x.img M S) s [])) _ _ (left s f).bytes),
    );
    longest = λ s f. longest s f (chain_of x m s) (rw made (left s f).chain);
    frees = λ k a b. rw (free-is, held-is) (member-other k _ _ (free-or-held M S x.img ready k a b));
    rising = rw free-is (others-rise (all_of (kept_in x.img M S) ++ directory x.img M S) (M * S) S);
    touches = touches;
    again = repair-again x.img x.tab m small is;
    resumes = λ ws tab l c. broken-off ws x.img tab small is (closed-table tab l c);
    recopies = λ img tab e v l c. (repair-copied x.img x.tab m small is img e v).repairs tab (closed-table tab l c);
  }

pub from-repair : FromRepair flex
unfolding repair
from-repair = record {
  accepts = λ x l c s d t. rw (eq-eqb (length x.tab) 2560 l, closed_all x.tab c 8 (omega arith), s, d, t) refl;
  repaired = mended-well;
}
