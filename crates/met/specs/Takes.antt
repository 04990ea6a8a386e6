-- A file that is written takes the first free sector; function 0 in writing.
use Rattle.std.specs.Prelude.{◌≡◌, ◌≢◌, drop, eqb}
use Rattle.std.proofs.Math.Path.{refl, sym, ap, ap₂, subst}
use Rattle.std.proofs.Common.{◌∙◌, get_or-set_same}
use mathlib.Core.List.{List, [], ◌∷◌, ◌++◌}
use Prim.Native.Nat.{ℕ, zero, suc, ◌+◌, ◌*◌, ◌/◌, ◌%◌, ◌≤◌, ◌<◌}
use native.Mathlib.Omega.{arith}
use Rattle.std.proofs.Math.Decide.{ℕ_discrete}
use Rattle.std.proofs.Math.ListN.{length, get_or}
use borrow.Author.Tests.{ne_eqb, eq-eqb}
use Rattle.rules.specs.Image.{adr}
use Rattle.rules.specs.Bytes.{pick, word_at, one, two, six, zeros}
use Rattle.rules.specs.Stores.{Store, store, stored, Put, put, puts}
use Rattle.rules.specs.Directory.{slots_of, last_of, first}
use Rattle.rules.specs.Outcome.{and_then}
use Rattle.rules.specs.Transfer.{fresh, take_stores, take_puts, take_for, sent, fill, writing as write_byte}
use Rattle.laws.specs.Bytes.{word-put, part-is, part_same, length-zeros, zeros-at, length_two, length-fresh, fresh-zero}
use Rattle.laws.specs.Small.{small-two, small-six, small-fresh}
use Rattle.chains.specs.Tally.{tally, tally-append, tally-head, apart}
use Rattle.laws.specs.Addresses.{Shape}
use Rattle.chains.specs.Addresses.{adr-zero, absurd-bool}
use Rattle.chains.specs.Chain.{Chain, tally-last, last_snoc, pieces-same, pieces-append}
use Rattle.chains.specs.Data.{AllData, data-one, data-append, sector-small, sector-index, sector-data, last-data, last_none, first-none, index-last, last_fit, first_small}
use Rattle.chains.specs.Moves.{hung-on}
use Rattle.laws.specs.Each.{Each}
use Rattle.chains.specs.Snoc.{length-snoc}
use Rattle.laws.specs.Stores.{Within, Off, in_image, Piece, begins, bytes_of, none, in_block, stored-off, stored_at, puts-off, puts-at}
use Rattle.chains.specs.Frame.{Frame, Lies, in_record, in_sector, in_slot, of_nothing}
use Rattle.chains.proofs.Frame.{framed}
use Rattle.demands.specs.Ledger.{File, no_file, closed, writing, Ledger, Request, denied, granted, set_free, with_new, transferred}
use Rattle.met.specs.Relation.{tb, t2, opens, writes, Holds, Writing, Agrees, tp-same, step, long}
use Rattle.met.specs.Quiet.{turned, alone1, alone2, nobody}
use Rattle.met.specs.Meets.{Meets}
use Rattle.met.specs.Sectors.{secs-data, secs-off, secs-once, few, fits, linked-is}
use Rattle.met.specs.Frees.{k-data, k_off, k-in, k-new, fr-data, fr-off, count-is, first-is, first-data, first-index, left, off-is, free-now, spare-now}
use Rattle.met.specs.Marks.{slot-low, slot_row, slot_apart, slot-in}
use Rattle.met.specs.Fills.{w, buffer-is, write-in, full-step, one-is}

-- the record number of a fresh sector
fresh-record : (size i : ℕ) → i < 2 → get_or (fresh size) (2 + i) 0 ≡ get_or (two size) i 0
unfolding fresh two zeros
fresh-record size zero h = refl
fresh-record size (suc zero) h = refl
fresh-record size (suc (suc i)) h = absurd (omega arith)

module _ (M S : ℕ) (z : Shape M S) (img tab : List ℕ) (a : Ledger) (r : Agrees M S img tab a) (n : ℕ) (hn : n < 8)
    (s : ℕ) (e : get_or a.blocks n closed ≡ writing s []) (k : ℕ) (fr : List ℕ) (ef : a.free ≡ k ∷ fr) where
  abbrev f : File
  f = get_or a.slots s no_file

  abbrev l : List ℕ
  l = f.secs

  abbrev o : ℕ
  o = get_or (slots_of a.dir) s 0

  pub wr : Writing S (slots_of a.dir) tab n f s []
  wr = w M S z img tab a r n hn s [] e

  hs : s < length (slots_of a.dir)
  hs = wr.slot

  olow : 1040 ≤ o
  olow = slot-low M S z img tab a r s hs

  orow : o % 256 + 24 ≤ 256
  orow = slot_row M S z img tab a r s hs

  oapart : (j : ℕ) → tally j a.dir ≡ 0 → j ≢ o / 256
  oapart = slot_apart M S z img tab a r s hs

  oin : o + 24 ≤ length img
  oin = slot-in M S z img tab a r s hs

  h : Holds S img o f
  h = r.holds s hs

  c : Chain S img (o + 13) l
  c = h.chain wr.alive

  tk : (x : ℕ) → tally x (k ∷ fr) + tally x l ≤ 1
  tk x = omega (arith, secs-once M S z img tab a r s hs x, ap (tally x) ef)

  klow : S ≤ k
  klow = (k-data M S z img tab a r k fr ef).0

  koff : tally k a.dir ≡ 0
  koff = k_off M S z img tab a r k fr ef

  kin : 256 * k + 256 ≤ length img
  kin = k-in M S z img tab a r k fr ef

  lfew : length fr + length l ≤ 2843
  lfew = omega (arith, few M S z img tab a r s hs, ap length ef)

  abbrev l' : List ℕ
  l' = l ++ k ∷ []

  abbrev lk : List ℕ
  lk = pick (eqb (length l) 0) [] (two (adr S k))

  abbrev take_s : List Store
  take_s =
      store 2 29 (six (adr S (first fr 0)) (adr S (last_of fr 0)) (length fr)) ∷ store k 0 (fresh (length l + 1))
      ∷ store (last_of l 0) 0 lk ∷ store (o / 256) (o % 256 + 13) (six (adr S (first l' 0)) (adr S k) (length l + 1)) ∷ []

  abbrev img' : List ℕ
  img' = stored img take_s

  third : (p : ℕ) → (1 ≤ length l → 256 * last_of l 0 ≤ p → p < 256 * last_of l 0 + 2 → ⊥) → 256 * last_of l 0 + 0 ≤ p
      → p < 256 * last_of l 0 + 0 + length lk → ⊥
  unfolding two
  third p g u v = go (ℕ_discrete (length l) 0)
    where
      go : Dec (length l ≡ 0) → ⊥
      go (yes q) = let t : length lk ≡ 0 = rw (eq-eqb (length l) 0 q) refl in omega (arith, t)
      go (no q) = let t : length lk ≡ 2 = rw (ne_eqb (length l) 0 q) refl in g (omega arith) (omega arith) (omega (arith, t))

  off : (p : ℕ) → (541 ≤ p → p < 547 → ⊥) → (256 * k ≤ p → p < 256 * k + 256 → ⊥)
      → (1 ≤ length l → 256 * last_of l 0 ≤ p → p < 256 * last_of l 0 + 2 → ⊥)
      → (o + 13 ≤ p → p < o + 19 → ⊥) → Each (Off p) (in_image take_s)
  unfolding six
  off p a b c d =
      ((λ u v. a (omega arith) (omega arith)), ((λ u v. b (omega arith) (omega (arith, length-fresh (length l + 1)))), (third p c, ((λ u v. d (omega arith) (omega arith)), tt))))

  ql : 1 ≤ length l → S ≤ last_of l 0
  ql h = (last-data M S z l (secs-data M S z img tab a r s hs) h).0

  qoff : 1 ≤ length l → tally (last_of l 0) a.dir ≡ 0
  qoff h = secs-off M S z img tab a r s hs (last_of l 0) (tally-last l 0 h)

  -- outside of what is stored to
  keep : (p : ℕ) → (541 ≤ p → p < 547 → ⊥) → (256 * k ≤ p → p < 256 * k + 256 → ⊥)
      → (1 ≤ length l → 256 * last_of l 0 ≤ p → p < 256 * last_of l 0 + 2 → ⊥)
      → (o + 13 ≤ p → p < o + 19 → ⊥) → get_or img' p 0 ≡ get_or img p 0
  keep p a b c d = stored-off take_s img p (off p a b c d)

  -- a data sector
  sector : (j i : ℕ) → S ≤ j → tally j a.dir ≡ 0 → j ≢ k → i < 256 → (1 ≤ length l → j ≡ last_of l 0 → 2 ≤ i) → get_or img' (256 * j + i) 0 ≡ get_or img (256 * j + i) 0
  sector j i b t ne d g =
      keep (256 * j + i) (λ u v. omega (arith, z.sectors)) (λ u v. omega (arith, ne))
      (λ o u v. let q : j ≡ last_of l 0 = omega arith in omega (arith, g o q)) (λ u v. omega (arith, orow, oapart j t))

  in-l : (j : ℕ) → 1 ≤ tally j l → j ≢ k
  in-l j t q = apart l (k ∷ fr) j k (λ x. omega (arith, tk x)) t (tally-head k fr) q

  link-lies : Dec (length l ≡ 0) → Lies S a.dir (k ∷ l) o (store (last_of l 0) 0 lk)
  unfolding two
  link-lies (yes q) = rw (eq-eqb (length l) 0 q) (of_nothing (last_of l 0) 0)
  link-lies (no q) =
      let e : lk ≡ two (adr S k) = rw (ne_eqb (length l) 0 q) refl in
      let t : length lk ≡ 2 = ap length e in
      in_sector (last_of l 0) 0 lk (ql (omega arith)) (qoff (omega arith)) (omega (arith, tally-last l 0 (omega arith))) (omega (arith, t))
      (λ j b. subst (λ (x : List ℕ). get_or x j 0 < 256) (sym e) ((small-two (adr S k)).at j))

  frame : Frame S a.dir img img' (k ∷ l) s
  unfolding six
  frame =
      framed M S z.sectors a.dir r.listing s hs img (k ∷ l) take_s (
        in_record _ refl (small-six (adr S (first fr 0)) (adr S (last_of fr 0)) (length fr)),
        (
          in_sector k 0 (fresh (length l + 1)) klow koff (tally-head k l) (omega (arith, length-fresh (length l + 1))) (λ j b. (small-fresh (length l + 1)).at j),
          (link-lies (ℕ_discrete (length l) 0), (in_slot (o / 256) (o % 256 + 13) _ (omega arith) (omega arith), tt)),
        ),
      )

  -- the records of free chain and slot
  slotoff : (p : ℕ) → p < 1024 → Each (Off p) (in_image (drop 1 take_s))
  unfolding six
  slotoff p b = ((λ u v. omega (arith, klow, z.sectors)), (third p (λ o u v. omega (arith, ql o, z.sectors)), ((λ u v. omega (arith, olow)), tt)))

  l-off : (x : ℕ) → 1 ≤ tally x l → tally x a.dir ≡ 0
  l-off x t = secs-off M S z img tab a r s hs x t

  l'-data : AllData M S l'
  l'-data = data-append M S l (k ∷ []) (secs-data M S z img tab a r s hs) (data-one M S k (klow, (k-data M S z img tab a r k fr ef).1))

  long1 : 2560 ≤ length img
  long1 = long M S z img tab a r

  fr-kept : (j i : ℕ) → 1 ≤ tally j fr → i < 256 → get_or img' (256 * j + i) 0 ≡ get_or img (256 * j + i) 0
  fr-kept j i t b =
      sector j i (fr-data M S z img tab a r k fr ef j t).0 (fr-off M S z img tab a r k fr ef j t) (k-new M S z img tab a r k fr ef j t) b
      (λ o q. absurd (apart fr l j (last_of l 0) (λ x. omega (arith, tk x)) t (tally-last l 0 o) q))

  record-now : (i p : ℕ) → i < 6 → 541 + i ≡ p → get_or img' p 0 ≡ get_or (left M S z img tab a r k fr ef) i 0
  unfolding six
  record-now i p b q = stored_at take_s img 0 i p (omega arith) (omega arith) q (omega (arith, long1)) (slotoff p (omega arith))

  abbrev grown : File
  grown = with_new S f k

  new : (i : ℕ) → i < 256 → get_or img' (256 * k + i) 0 ≡ get_or (fresh (length l + 1)) i 0
  unfolding six
  new i b =
      stored_at take_s img 1 i (256 * k + i) (omega arith) (omega (arith, length-fresh (length l + 1))) (omega arith) (omega (arith, kin))
      (third (256 * k + i) (λ o u v. let q : last_of l 0 ≡ k = omega arith in in-l (last_of l 0) (tally-last l 0 o) q), ((λ u v. omega (arith, oapart k koff, orow)), tt))

  link-is : 1 ≤ length l → word_at img' (256 * last_of l 0) ≡ adr S k
  unfolding six two
  link-is q =
      let t : lk ≡ two (adr S k) = rw (ne_eqb (length l) 0 (omega arith)) refl in
      let b : 256 * last_of l 0 + 256 ≤ length img =
      fits M S z img tab a r (last_of l 0) (last-data M S z l (secs-data M S z img tab a r s hs) q).1 in
      let t2 : length lk ≡ 2 = ap length t in
      word-put img' (256 * last_of l 0) (adr S k) (sector-small M S z k (k-data M S z img tab a r k fr ef))
      (stored_at take_s img 2 0 (256 * last_of l 0) (omega arith) (omega arith) (omega arith) (omega arith) ((λ u v. omega (arith, oapart (last_of l 0) (qoff q), orow)), tt) ∙ ap (λ (x : List ℕ). get_or x 0 0) t)
      (stored_at take_s img 2 1 (256 * last_of l 0 + 1) (omega arith) (omega arith) (omega arith) (omega arith) ((λ u v. omega (arith, oapart (last_of l 0) (qoff q), orow)), tt) ∙ ap (λ (x : List ℕ). get_or x 1 0) t)

  in-slot-kept : (i p : ℕ) → o + i ≡ p → (i < 13) → get_or img' p 0 ≡ get_or img p 0
  in-slot-kept i p q b =
      keep p (λ u v. omega (arith, olow)) (λ u v. omega (arith, oapart k koff, orow)) (λ x u v. omega (arith, oapart (last_of l 0) (qoff x), orow)) (λ u v. omega arith)

  in-slot-late : (i p : ℕ) → o + i ≡ p → 19 ≤ i → i < 24 → get_or img' p 0 ≡ get_or img p 0
  in-slot-late i p q b b' =
      keep p (λ u v. omega (arith, olow)) (λ u v. omega (arith, oapart k koff, orow)) (λ x u v. omega (arith, oapart (last_of l 0) (qoff x), orow)) (λ u v. omega arith)

  holds-now : Holds S img' o grown
  unfolding six
  holds-now =
      record {
        at = h.at;
        name = part_same img img' o o 11 (λ i b. in-slot-kept i (o + i) refl (omega arith)) ∙ h.name;
        mode = part_same img img' (o + 11) (o + 11) 2 (λ i b. in-slot-kept (11 + i) (o + 11 + i) (omega arith) (omega arith)) ∙ h.mode;
        ends = part-is img' (o + 13) 6 (six (adr S (first l' 0)) (adr S k) (length l + 1)) refl (λ i b. at i (o + 13 + i) b refl);
        map = part_same img img' (o + 19) (o + 19) 1 (λ i b. in-slot-late (19 + i) (o + 19 + i) (omega arith) (omega arith) (omega arith)) ∙ h.map;
        date = part_same img img' (o + 20) (o + 20) 4 (λ i b. in-slot-late (20 + i) (o + 20 + i) (omega arith) (omega arith) (omega arith)) ∙ h.date;
        chain = λ v. hung-on S img img' (o + 13) l (k ∷ []) c (λ x. omega (arith, tk x))
            (λ j i t ne b. sector j i (secs-data M S z img tab a r s hs j t).0 (l-off j t) (in-l j t) (omega arith) (λ o q. absurd (ne q))) link-is
            (word-put img' (256 * k) 0 (omega arith) (ap (λ (p : ℕ). get_or img' p 0) (omega arith) ∙ new 0 (omega arith) ∙ fresh-zero (length l + 1) 0 (omega arith) (omega arith)) (new 1 (omega arith) ∙ fresh-zero (length l + 1) 1 (omega arith) (omega arith)) ∙ sym (adr-zero S), tt)
            (record {
              x = adr S (first l' 0);
              y = adr S k;
              v = length l + 1;
              start = refl;
              end = ap (adr S) (sym (last_snoc l k 0));
              size = sym (length-snoc l k);
              start_small = first_small M S z l' l'-data;
              end_small = sector-small M S z k (k-data M S z img tab a r k fr ef);
              size_small = omega (arith, lfew);
              bytes = at;
            });
        dead = λ v. absurd-bool wr.alive v;
        recs = sym (pieces-append 2 2 img' l (k ∷ [])
            ∙ ap₂ (λ (x y : List (List ℕ)). x ++ y)
            (pieces-same 2 2 img img' l
            (λ j i t u b. sector j i (secs-data M S z img tab a r s hs j t).0 (l-off j t) (in-l j t) (omega arith) (λ o q. omega arith)) ∙ sym h.recs)
            (ap (λ (x : List ℕ). x ∷ []) (part-is img' (256 * k + 2) 2 (two (length l + 1)) (length_two (length l + 1))
            (λ i b. ap (λ (p : ℕ). get_or img' p 0) (omega arith) ∙ new (2 + i) (omega arith) ∙ fresh-record (length l + 1) i b))));
        body = sym (pieces-append 4 252 img' l (k ∷ [])
            ∙ ap₂ (λ (x y : List (List ℕ)). x ++ y)
            (pieces-same 4 252 img img' l
            (λ j i t u b. sector j i (secs-data M S z img tab a r s hs j t).0 (l-off j t) (in-l j t) b (λ o q. omega arith)) ∙ sym h.body)
            (ap (λ (x : List ℕ). x ∷ []) (part-is img' (256 * k + 4) 252 (zeros 252) (length-zeros 252)
            (λ i b. ap (λ (p : ℕ). get_or img' p 0) (omega arith) ∙ new (4 + i) (omega arith) ∙ fresh-zero (length l + 1) (4 + i) (omega arith) (omega arith) ∙ sym (zeros-at 252 i)))));
      }
    where
      at : (i p : ℕ) → i < 6 → o + 13 + i ≡ p → get_or img' p 0 ≡ get_or (six (adr S (first l' 0)) (adr S k) (length l + 1)) i 0
      at i p b q = stored_at take_s img 3 i p (omega arith) (omega arith) (omega arith) (omega (arith, oin)) tt

  -- the table
  abbrev take_ts : ℕ → List Put
  take_ts b =
      put 17 (six (adr S (first l' 0)) (adr S k) (length l + 1)) ∷ put 64 (fresh (length l + 1))
      ∷ put 30 (two (adr S k)) ∷ put 32 (two (length l + 1)) ∷ put 34 (one 4) ∷ put 68 (one b) ∷ put 34 (one 5) ∷ []

  module _ (b : ℕ) where
    abbrev tab' : List ℕ
    tab' = puts tab (320 * n) (take_ts b)

    same : (i : ℕ) → (2 ≤ i) × (i < 17) → tb tab' n i ≡ tb tab n i
    unfolding six two one
    same i g = puts-off (take_ts b) tab (320 * n) (320 * n + i) (omega (arith, g))

    same' : (i : ℕ) → (35 ≤ i) × (i < 64) → tb tab' n i ≡ tb tab n i
    unfolding six two one
    same' i g = puts-off (take_ts b) tab (320 * n) (320 * n + i) (omega (arith, g))

    abbrev put_in : List Piece
    put_in = in_block (320 * n) (take_ts b)

    at : (q j i : ℕ) → q < 7 → j < length (bytes_of (get_or put_in q none)) → begins (get_or put_in q none) + j ≡ 320 * n + i → i < 320
        → Each (Off (320 * n + i)) (drop (suc q) put_in) → get_or tab' (320 * n + i) 0 ≡ get_or (bytes_of (get_or put_in q none)) j 0
    at q j i g u v t o = puts-at (take_ts b) tab (320 * n) q j (320 * n + i) (omega arith) u v (omega (arith, r.tlen)) o

    buf : (i : ℕ) → i < 252 → tb tab' n (68 + i) ≡ get_or (b ∷ []) i 0
    unfolding six two one
    buf zero u = at 5 0 (68 + 0) (omega arith) (omega arith) (omega arith) (omega arith) (omega arith)
    buf (suc i) u =
        at 1 (4 + suc i) (68 + suc i) (omega arith) (omega (arith, length-fresh (length l + 1))) (omega arith) (omega arith) (omega arith)
        ∙ fresh-zero (length l + 1) (4 + suc i) (omega arith) (omega arith)

    t2-at : (i v : ℕ) → v < 65536 → get_or tab' (320 * n + i) 0 ≡ v / 256 % 256 → get_or tab' (320 * n + (i + 1)) 0 ≡ v % 256 → t2 tab' n i ≡ v
    t2-at i v g x y = word-put tab' (320 * n + i) v g x (ap (λ (p : ℕ). get_or tab' p 0) (omega arith) ∙ y)

    keeps-now : Writing S (slots_of a.dir) tab' n grown s (b ∷ [])
    unfolding six two one
    keeps-now =
        record {
          act = same 2 (omega arith) ∙ wr.act;
          drive = same 3 (omega arith) ∙ wr.drive;
          slot = hs;
          alive = wr.alive;
          place = tp-same tab tab' n (λ i h. same' i (omega arith)) ∙ wr.place;
          start = t2-at 17 (adr S (first l' 0)) (first_small M S z l' l'-data) (at 0 0 17 (omega arith) (omega arith) (omega arith) (omega arith) (omega arith)) (at 0 1 18 (omega arith) (omega arith) (omega arith) (omega arith) (omega arith));
          size = t2-at 21 (length l + 1) (omega (arith, lfew)) (at 0 4 21 (omega arith) (omega arith) (omega arith) (omega arith) (omega arith)) (at 0 5 22 (omega arith) (omega arith) (omega arith) (omega arith) (omega arith)) ∙ sym (length-snoc l k);
          pos = t2-at 30 (adr S k) (sector-small M S z k (k-data M S z img tab a r k fr ef)) (at 2 0 30 (omega arith) (omega arith) (omega arith) (omega arith) (omega arith)) (at 2 1 31 (omega arith) (omega arith) (omega arith) (omega arith) (omega arith)) ∙ ap (adr S) (sym (last_snoc l k 0));
          idle = λ q. absurd (omega arith);
          busy = λ q. at 6 0 34 (omega arith) (omega arith) (omega arith) (omega arith) tt;
          short = omega arith;
          some = λ q. omega (arith, length-snoc l k);
          buffer = λ q i u. buf i u;
        }

    pub take_within : Each Within (take_ts b)
    unfolding six two one
    take_within = omega (arith, length-fresh (length l + 1))

    pub take_step : Agrees M S img' tab' (set_free a fr (drop 1 a.spare) s grown n (writing s (b ∷ [])))
    unfolding six two one
    take_step =
        step M S z img tab a r img' tab' (k ∷ l) fr (drop 1 a.spare) n s grown (writing s (b ∷ [])) hn hs frame
        (turned tab n (take_ts b) (take_within)) (free-now M S z img tab a r k fr ef img' record-now fr-kept) (spare-now M S z img tab a r k fr ef img' record-now fr-kept) holds-now
        (subst (λ (g : File). Writing S (slots_of a.dir) tab' n g s (b ∷ [])) (sym (get_or-set_same a.slots s grown no_file (omega (arith, r.ns, hs)))) keeps-now)
        (λ x t. omega (arith, ap (tally x) ef)) (λ x. omega (arith, ap (tally x) ef, tally-append x l (k ∷ [])))
        (nobody M S z img tab a r n hn s [] e)
        (alone1 M S z img tab a r n hn (writing s (b ∷ [])) (ap opens (sym e)) (ap writes (sym e)))
        (alone2 M S z img tab a r n hn (writing s (b ∷ [])) (ap opens (sym e)))

  -- ---- the rule's numbers are these
  start-eq : pick (eqb (adr S (first l 0)) 0) (adr S k) (adr S (first l 0)) ≡ adr S (first l' 0)
  start-eq = rw (first-none M S z l (secs-data M S z img tab a r s hs)) (go l)
    where
      go : (l : List ℕ) → pick (eqb (length l) 0) (adr S k) (adr S (first l 0)) ≡ adr S (first (l ++ k ∷ []) 0)
      go [] = refl
      go (x ∷ l) = rw (ne_eqb (suc (length l)) 0 (omega arith)) refl

  stores-eq : stored img (take_stores img tab M S (320 * n) o) ≡ img'
  unfolding take_stores
  stores-eq =
      let sd = secs-data M S z img tab a r s hs in
      rw (
        off-is M S z img tab a r k fr ef,
        first-is M S z img tab a r k fr ef,
        wr.size,
        wr.pos,
        wr.start,
        start-eq,
        first-index M S z img tab a r k fr ef,
        index-last M S z l sd,
        last_none M S z l sd,
      )
      (linked-is (eqb (length l) 0) (stored img (store 2 29 (six (adr S (first fr 0)) (adr S (last_of fr 0)) (length fr)) ∷ store k 0 (fresh (length l + 1)) ∷ [])) (last_of l 0) (adr S k)
      (store (o / 256) (o % 256 + 13) (six (adr S (first l' 0)) (adr S k) (length l + 1)) ∷ []))

  pub take_meets : (b : ℕ)
      → Meets M S img tab n (and_then (take_for img tab M S (320 * n) o) (sent 4 b))
      (granted 0 (set_free a fr (drop 1 a.spare) s grown n (writing s (b ∷ []))) (take_puts (adr S k) (adr S (first l' 0)) (length l + 1) ++ sent 4 b))
  unfolding take_for take_puts sent
  take_meets b =
      let sd = secs-data M S z img tab a r s hs in
      rw (
        wr.pos,
        last_fit M S z l sd,
        count-is M S z img tab a r k fr ef,
        ne_eqb (length (k ∷ fr)) 0 (omega arith),
        first-is M S z img tab a r k fr ef,
        first-data M S z img tab a r k fr ef,
        wr.size,
        ne_eqb (length l) 65535 (omega (arith, lfew)),
        wr.start,
        start-eq,
        stores-eq,
      )
      (refl, refl, take_within b, λ plain. take_step b)

-- ---- function 0 in writing

module _ (M S : ℕ) (z : Shape M S) (img tab : List ℕ) (a : Ledger) (r : Agrees M S img tab a) (n : ℕ) (hn : n < 8) where
  pub no_more : (s b : ℕ) → get_or a.blocks n closed ≡ writing s [] → a.free ≡ []
      → Meets M S img tab n (and_then (take_for img tab M S (320 * n) (get_or (slots_of a.dir) s 0)) (sent 4 b)) (denied 7)
  unfolding take_for
  no_more s b e ef =
      let wr = w M S z img tab a r n hn s [] e in
      let c : word_at img 545 ≡ 0 = r.free.size ∙ ap length ef in
      rw (wr.pos, last_fit M S z (get_or a.slots s no_file).secs (secs-data M S z img tab a r s wr.slot), c) (refl, omega arith)

  pub next-byte : (q : Request) (s : ℕ) (ub : List ℕ) → get_or a.blocks n closed ≡ writing s ub → 1 ≤ length ub
      → Meets M S img tab n (write_byte img tab M S (320 * n) q.byte) (transferred M S a n q (writing s ub))
  unfolding write_byte fill sent
  next-byte q s ub e h = go (ℕ_discrete (length ub) 251)
    where
      wr : Writing S (slots_of a.dir) tab n (get_or a.slots s no_file) s ub
      wr = w M S z img tab a r n hn s ub e

      go : Dec (length ub ≡ 251) → Meets M S img tab n (write_byte img tab M S (320 * n) q.byte) (transferred M S a n q (writing s ub))
      go (yes p) =
          let x = wr.busy h in
          let g = last-data M S z (get_or a.slots s no_file).secs (secs-data M S z img tab a r s wr.slot) (wr.some h) in
          rw (
            ne_eqb (tb tab n 34) 0 (omega arith),
            eq-eqb (tb tab n 34) 255 (omega arith),
            ne_eqb (length ub) 0 (omega arith),
            eq-eqb (length ub) 251 p,
            wr.pos,
            sector-data M S z (last_of (get_or a.slots s no_file).secs 0) g,
            sector-index M S z (last_of (get_or a.slots s no_file).secs 0) g,
            buffer-is M S z img tab a r n hn s ub e 251 h (omega arith),
            one-is q.byte,
          )
          (refl, refl, unfold one in (omega arith, (omega arith, tt)), unfold one in λ plain. full-step M S z img tab a r n hn s ub e q.byte p)
      go (no p) =
          let x = wr.busy h in
          let y = wr.short in
          rw (ne_eqb (tb tab n 34) 0 (omega arith), ne_eqb (tb tab n 34) 255 (omega arith), ne_eqb (length ub) 0 (omega arith), ne_eqb (length ub) 251 p, x)
          (refl, refl, unfold one in (omega (arith, y), (omega arith, tt)), λ plain. write-in M S z img tab a r n hn s ub e q.byte h (omega arith))
