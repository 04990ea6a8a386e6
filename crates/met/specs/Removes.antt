-- Delete: a file's chain is hung behind the free chain, its slot marked. Rename.
use Rattle.std.specs.Prelude.{◌≡◌, ◌≢◌, ℕ, suc, ◌+◌, ◌*◌, ◌/◌, ◌%◌, ◌≤◌, ◌<◌, set, eqb}
use Rattle.std.proofs.Math.Path.{refl, sym, ap, subst}
use Rattle.std.proofs.Common.{ap₂, ◌∙◌, length-append}
use Rattle.std.proofs.Math.Bool.{true, false}
use mathlib.Core.List.{List, [], ◌∷◌, ◌++◌, append-nil}
use native.Mathlib.Omega.{arith}
use Rattle.std.proofs.Math.Decide.{ℕ_discrete}
use Rattle.std.proofs.Math.ListN.{length, get_or, drop}
use borrow.Author.Tests.{ne_eqb, eq-eqb, le-ltb}
use Rattle.rules.specs.Bytes.{pick, word_at, part, one, two, six}
use Rattle.rules.specs.Stores.{Store, store, stored, Put, put, puts}
use Rattle.rules.specs.Image.{is_data, adr}
use Rattle.rules.specs.Names.{legal}
use Rattle.rules.specs.Directory.{slots_of, live, named, place_of, attributes_at, last_of, first}
use Rattle.rules.specs.Outcome.{refuse, done, on_slot, on_none}
use Rattle.rules.specs.Block.{in_use}
use Rattle.rules.specs.Transfer.{mark}
use Rattle.rules.specs.Files.{write_protected, delete_protected, hang_stores, gone, remove, delete, rename}
use Rattle.laws.specs.Bytes.{word-put, part-is, part_same, length_part, length-one}
use Rattle.chains.specs.Tally.{tally, tally-append, apart}
use Rattle.laws.specs.Addresses.{Shape}
use Rattle.chains.specs.Addresses.{absurd-bool}
use Rattle.chains.specs.Chain.{Chain, tally-last, first-in, last-append, seg_same, chain_same, empty, pieces, pieces-same, pieces-append}
use Rattle.chains.specs.Data.{AllData, sector-small, sector-data, last-data, index-last, last-small}
use Rattle.chains.specs.Moves.{hung-on}
use Rattle.laws.specs.Small.{small-two, small-six}
use Rattle.laws.specs.Each.{Each}
use Rattle.laws.specs.Stores.{Within, stored-off, stored_at, puts-off}
use Rattle.chains.specs.Frame.{Frame, Lies, in_record, in_sector, in_slot, of_nothing}
use Rattle.chains.proofs.Frame.{framed}
use Rattle.demands.specs.Ledger.{File, no_file, Block, closed, Ledger, denied, granted, Sought, nowhere, slot, on_sought, file_named, busy, attributes, set_file, set_free, with_mark, with_name, joined, entry_of, deleted, renamed, request}
use Rattle.met.specs.Relation.{opens, Holds, Keeps, Agrees, tp-same, Turn, step, long}
use Rattle.met.specs.Quiet.{turned, shut-writes, idle-kept}
use Rattle.met.specs.Meets.{Meets, meets-unless, meets-when}
use Rattle.met.specs.Sectors.{free-data, free_off, secs-data, secs-off, secs-once, few, fits, linked-is}
use Rattle.met.specs.Searches.{legal-part, find-is, in-use-is, attributes-is, looked_up, seek_found, named-hit, not-busy, not-open}
use Rattle.met.specs.Marks.{slot-low, slot_row, slot_apart, slot-in, length-name, slot-off, slot_at, slot-frame, slot-free, slot-spare, mark-holds, mark-step}
use Rattle.met.specs.Picture.{joined-pieces, entry-is}
use Rattle.met.specs.Opens.{legal-live}

-- the first of a list is another
set_first : (l r : List ℕ) (x : ℕ) → 1 ≤ length l → set l 0 x ++ r ≡ x ∷ drop 1 (l ++ r)
set_first [] r x h = absurd (omega arith)
set_first (y ∷ l) r x h = refl

module _ (M S : ℕ) (z : Shape M S) (img tab : List ℕ) (a : Ledger) (r : Agrees M S img tab a) (s : ℕ) (hs : s < length (slots_of a.dir))
    (alive : live (get_or a.slots s no_file).name 0 ≡ true) where
  abbrev f : File
  f = get_or a.slots s no_file

  abbrev l : List ℕ
  l = f.secs

  abbrev fr : List ℕ
  fr = a.free

  abbrev o : ℕ
  o = get_or (slots_of a.dir) s 0

  olow : 1040 ≤ o
  olow = slot-low M S z img tab a r s hs

  orow : o % 256 + 24 ≤ 256
  orow = slot_row M S z img tab a r s hs

  oapart : (j : ℕ) → tally j a.dir ≡ 0 → j ≢ o / 256
  oapart = slot_apart M S z img tab a r s hs

  oin : o + 24 ≤ length img
  oin = slot-in M S z img tab a r s hs

  -- ---- the chain is hung
  module _ (some : 1 ≤ length l) where
    abbrev lk : List ℕ
    lk = pick (eqb (length fr) 0) [] (two (adr S (first l 0)))

    abbrev hang_s : List Store
    hang_s =
        store (last_of fr 0) 0 lk ∷ store 2 29 (six (adr S (first (fr ++ l) 0)) (adr S (last_of l 0)) (length fr + length l)) ∷ store (o / 256) (o % 256) (one 255) ∷ []

    abbrev img' : List ℕ
    img' = stored img hang_s

    link-off : (p : ℕ) → (1 ≤ length fr → 256 * last_of fr 0 ≤ p → p < 256 * last_of fr 0 + 2 → ⊥) → 256 * last_of fr 0 + 0 ≤ p
        → p < 256 * last_of fr 0 + 0 + length lk → ⊥
    unfolding two
    link-off p g u v = go (ℕ_discrete (length fr) 0)
      where
        go : Dec (length fr ≡ 0) → ⊥
        go (yes q) = let t : length lk ≡ 0 = rw (eq-eqb (length fr) 0 q) refl in omega (arith, t)
        go (no q) = let t : length lk ≡ 2 = rw (ne_eqb (length fr) 0 q) refl in g (omega arith) (omega arith) (omega (arith, t))

    keep : (p : ℕ) → (1 ≤ length fr → 256 * last_of fr 0 ≤ p → p < 256 * last_of fr 0 + 2 → ⊥) → (541 ≤ p → p < 547 → ⊥) → p ≢ o
        → get_or img' p 0 ≡ get_or img p 0
    unfolding six one
    keep p a b c = stored-off hang_s img p (link-off p a, ((λ u v. b (omega arith) (omega arith)), ((λ u v. omega (arith, c)), tt)))

    ql : 1 ≤ length fr → S ≤ last_of fr 0
    ql h = (last-data M S z fr (free-data M S z img tab a r) h).0

    qoff : 1 ≤ length fr → tally (last_of fr 0) a.dir ≡ 0
    qoff h = free_off M S z img tab a r (last_of fr 0) (tally-last fr 0 h)

    sector : (j i : ℕ) → S ≤ j → tally j a.dir ≡ 0 → i < 256 → (1 ≤ length fr → j ≢ last_of fr 0) → get_or img' (256 * j + i) 0 ≡ get_or img (256 * j + i) 0
    sector j i b t c g = keep (256 * j + i) (λ o u v. g o (omega arith)) (λ u v. omega (arith, z.sectors)) (omega (arith, orow, oapart j t))

    link-lies : Dec (length fr ≡ 0) → Lies S a.dir fr o (store (last_of fr 0) 0 lk)
    unfolding two
    link-lies (yes q) = rw (eq-eqb (length fr) 0 q) (of_nothing (last_of fr 0) 0)
    link-lies (no q) =
        let e : lk ≡ two (adr S (first l 0)) = rw (ne_eqb (length fr) 0 q) refl in
        let t : length lk ≡ 2 = ap length e in
        in_sector (last_of fr 0) 0 lk (ql (omega arith)) (qoff (omega arith)) (tally-last fr 0 (omega arith)) (omega (arith, t))
        (λ j b. subst (λ (x : List ℕ). get_or x j 0 < 256) (sym e) ((small-two (adr S (first l 0))).at j))

    frame : Frame S a.dir img img' fr s
    unfolding six one
    frame = framed M S z.sectors a.dir r.listing s hs img fr hang_s (link-lies (ℕ_discrete (length fr) 0), (in_record _ refl (small-six (adr S (first (fr ++ l) 0)) (adr S (last_of l 0)) (length fr + length l)), (in_slot (o / 256) (o % 256) _ (omega arith) (omega arith), tt)))

    l-data : AllData M S l
    l-data = secs-data M S z img tab a r s hs

    start_small : (fr : List ℕ) → AllData M S fr → adr S (first (fr ++ l) 0) < 65536
    start_small [] g = sector-small M S z (first l 0) (l-data (first l 0) (first-in l 0 some))
    start_small (k ∷ fr) g = sector-small M S z k (g k (first-in (k ∷ fr) 0 (omega arith)))

    link-is : 1 ≤ length fr → word_at img' (256 * last_of fr 0) ≡ adr S (first l 0)
    unfolding six two one
    link-is q =
        let t : lk ≡ two (adr S (first l 0)) = rw (ne_eqb (length fr) 0 (omega arith)) refl in
        let b : 256 * last_of fr 0 + 256 ≤ length img =
        fits M S z img tab a r (last_of fr 0) (last-data M S z fr (free-data M S z img tab a r) q).1 in
        let t2 : length lk ≡ 2 = ap length t in
        word-put img' (256 * last_of fr 0) (adr S (first l 0)) (sector-small M S z (first l 0) (l-data (first l 0) (first-in l 0 some)))
        (stored_at hang_s img 0 0 (256 * last_of fr 0) (omega arith) (omega arith) (omega arith) (omega arith) (omega (arith, ql q, z.sectors, oapart (last_of fr 0) (qoff q), orow)) ∙ ap (λ (x : List ℕ). get_or x 0 0) t)
        (stored_at hang_s img 0 1 (256 * last_of fr 0 + 1) (omega arith) (omega arith) (omega arith) (omega arith) (omega (arith, ql q, z.sectors, oapart (last_of fr 0) (qoff q), orow)) ∙ ap (λ (x : List ℕ). get_or x 1 0) t)

    long1 : 2560 ≤ length img
    long1 = long M S z img tab a r

    free-now : Chain S img' 541 (fr ++ l)
    unfolding six one
    free-now =
        hung-on S img img' 541 fr l r.free (λ x. omega (arith, secs-once M S z img tab a r s hs x))
        (λ j i t ne b. sector j i (free-data M S z img tab a r j t).0 (free_off M S z img tab a r j t) (omega arith) (λ o q. ne q)) link-is
        (seg_same S img img' l 0 (λ j i t b. sector j i (l-data j t).0 (secs-off M S z img tab a r s hs j t) (omega arith)
        (λ o q. apart l fr j (last_of fr 0) (λ x. omega (arith, secs-once M S z img tab a r s hs x)) t (tally-last fr 0 o) q)) ((r.holds s hs).chain alive).seg)
        (record {
          x = adr S (first (fr ++ l) 0);
          y = adr S (last_of l 0);
          v = length fr + length l;
          start = refl;
          end = ap (adr S) (sym (last-append fr l 0 some));
          size = sym (length-append fr l);
          start_small = start_small fr (free-data M S z img tab a r);
          end_small = last-small M S z l l-data;
          size_small = omega (arith, few M S z img tab a r s hs);
          bytes = λ i p b q. stored_at hang_s img 1 i p (omega arith) (omega arith) (omega arith) (omega (arith, long1)) (omega (arith, olow));
        })

    -- links alone are stored to
    inside : (ks : List ℕ) → AllData M S ks → ((x : ℕ) → 1 ≤ tally x ks → tally x a.dir ≡ 0) → pieces 2 254 img' ks ≡ pieces 2 254 img ks
    inside ks g h =
        pieces-same 2 254 img img' ks
        (λ j i t b c. keep (256 * j + i) (λ o u v. omega arith) (λ u v. omega (arith, (g j t).0, z.sectors)) (omega (arith, oapart j (h j t), orow)))

    spare-now : a.spare ++ joined f.recs f.body ≡ pieces 2 254 img' (fr ++ l)
    spare-now =
        ap₂ (λ (x y : List (List ℕ)). x ++ y) (r.spare ∙ sym (inside fr (free-data M S z img tab a r) (free_off M S z img tab a r)))
        (ap₂ joined (r.holds s hs).recs (r.holds s hs).body ∙ joined-pieces img l ∙ sym (inside l l-data (secs-off M S z img tab a r s hs)))
        ∙ sym (pieces-append 2 254 img' fr l)

    hang-step : (n : ℕ) (tab' : List ℕ) (b : Block) → n < 8 → Turn tab tab' n → opens b ≡ 0
        → Keeps S (slots_of a.dir) tab' n (set a.slots s (with_mark f)) b
        → ((n' : ℕ) → n' < 8 → n' ≢ n → opens (get_or a.blocks n' closed) ≢ suc s)
        → Agrees M S img' tab' (set_free a (fr ++ l) (a.spare ++ joined f.recs f.body) s (with_mark f) n b)
    unfolding six one
    hang-step n tab' b hn t ob k q =
        step M S z img tab a r img' tab' fr (fr ++ l) (a.spare ++ joined f.recs f.body) n s (with_mark f) b hn hs frame t free-now spare-now
        (mark-holds M S z img tab a r s hs img'
        (stored_at hang_s img 2 0 o (omega arith) (omega arith) (omega arith) (omega (arith, oin)) tt)
        (λ i lo hi. keep (o + i) (λ x u v. omega (arith, oapart (last_of fr 0) (qoff x), orow)) (λ u v. omega (arith, olow)) (omega arith)))
        k (λ x h. omega arith) (λ x. omega (arith, tally-append x fr l)) q (λ n' h e w. absurd (omega (arith, w, shut-writes b ob))) (λ n' h e w. absurd (omega (arith, w, ob)))

    -- the rule's numbers are these
    last_ok : pick (eqb (length fr) 0) true (is_data M S (adr S (last_of fr 0))) ≡ true
    last_ok = go fr (free-data M S z img tab a r)
      where
        go : (fr : List ℕ) → AllData M S fr → pick (eqb (length fr) 0) true (is_data M S (adr S (last_of fr 0))) ≡ true
        go [] g = refl
        go (x ∷ fr) g =
            rw (ne_eqb (suc (length fr)) 0 (omega arith)) (sector-data M S z (last_of (x ∷ fr) 0) (last-data M S z (x ∷ fr) g (omega arith)))

    head-eq : pick (eqb (length fr) 0) (adr S (first l 0)) (adr S (first fr 0)) ≡ adr S (first (fr ++ l) 0)
    head-eq = go fr
      where
        go : (fr : List ℕ) → pick (eqb (length fr) 0) (adr S (first l 0)) (adr S (first fr 0)) ≡ adr S (first (fr ++ l) 0)
        go [] = refl
        go (x ∷ fr) = rw (ne_eqb (suc (length fr)) 0 (omega arith)) refl

    stores-eq : stored img (hang_stores S o (length fr) (adr S (first fr 0)) (adr S (last_of fr 0)) (adr S (first l 0)) (adr S (last_of l 0)) (length l)) ≡ img'
    unfolding hang_stores mark
    stores-eq =
        rw (index-last M S z fr (free-data M S z img tab a r), head-eq)
        (linked-is (eqb (length fr) 0) img (last_of fr 0) (adr S (first l 0)) (store 2 29 (six (adr S (first (fr ++ l) 0)) (adr S (last_of l 0)) (length fr + length l)) ∷ store (o / 256) (o % 256) (one 255) ∷ []))

  -- ---- block n, which is idle, gets the marked slot
  module _ (n : ℕ) (hn : n < 8) (oz : opens (get_or a.blocks n closed) ≡ 0) (free : busy true s a.blocks 8 ≡ false) where
    abbrev ps : List Put
    ps = put 4 (one 255 ++ part img (o + 1) 23) ∷ []

    abbrev tab' : List ℕ
    tab' = puts tab (320 * n) ps

    lp : length (one 255 ++ part img (o + 1) 23) ≡ 24
    lp = length-append (one 255) (part img (o + 1) 23) ∙ omega (arith, length-one 255, length_part img (o + 1) 23)

    gone-within : Each Within ps
    gone-within = omega (arith, lp)

    -- by the ledger
    gone-puts : ps ≡ put 4 (entry_of (with_mark f)) ∷ []
    unfolding one part entry_of
    gone-puts =
        let e : part img o 24 ≡ f.name ++ (f.mode ++ (f.ends ++ (f.map ++ f.date))) = entry-is M S z img tab a r s hs in
        ap (λ (x : List ℕ). put 4 x ∷ [])
        (ap (λ (x : List ℕ). 255 ∷ drop 1 x) e ∙ sym (set_first f.name (f.mode ++ (f.ends ++ (f.map ++ f.date))) 255 (omega (arith, length-name M S z img tab a r s hs))))

    gone-turn : Turn tab tab' n
    gone-turn = turned tab n ps gone-within

    gone-kept : Keeps S (slots_of a.dir) tab' n (set a.slots s (with_mark f)) (get_or a.blocks n closed)
    gone-kept =
        idle-kept M S z img tab a r n hn tab' (set a.slots s (with_mark f)) oz (puts-off ps tab (320 * n) (320 * n + 2) (omega (arith, lp)))
        (tp-same tab tab' n (λ i h. puts-off ps tab (320 * n) (320 * n + i) (omega (arith, lp, h))))

    nobody : (n' : ℕ) → n' < 8 → n' ≢ n → opens (get_or a.blocks n' closed) ≢ suc s
    nobody n' h e = not-open s (get_or a.blocks n' closed) (not-busy true s a.blocks 8 n' free h)

    c : Chain S img (o + 13) l
    c = (r.holds s hs).chain alive

    e15 : word_at img (o + 15) ≡ adr S (last_of l 0)
    e15 = ap (word_at img) (omega arith) ∙ c.end

    e17 : word_at img (o + 17) ≡ length l
    e17 = ap (word_at img) (omega arith) ∙ c.size

    remove-meets : Meets M S img tab n (remove img M S o) (granted 0 (set_free a (fr ++ l) (a.spare ++ joined f.recs f.body) s (with_mark f) n (get_or a.blocks n closed)) (put 4 (entry_of (with_mark f)) ∷ []))
    unfolding remove gone mark
    remove-meets = go (ℕ_discrete (length l) 0)
      where
        go : Dec (length l ≡ 0)
            → Meets M S img tab n (remove img M S o) (granted 0 (set_free a (fr ++ l) (a.spare ++ joined f.recs f.body) s (with_mark f) n (get_or a.blocks n closed)) (put 4 (entry_of (with_mark f)) ∷ []))
        go (yes p) =
            let q : fr ++ l ≡ fr = ap (λ (x : List ℕ). fr ++ x) (empty l p) ∙ append-nil fr in
            let u : a.spare ++ joined f.recs f.body ≡ a.spare =
            ap (λ (x : List (List ℕ)). a.spare ++ x) (ap₂ joined (r.holds s hs).recs (r.holds s hs).body ∙ joined-pieces img l ∙ ap (pieces 2 254 img) (empty l p)) ∙ append-nil a.spare in
            rw (e17, eq-eqb (length l) 0 p, q, u)
            (refl, gone-puts, gone-within, λ plain. mark-step M S z img tab a r s hs n tab' (get_or a.blocks n closed) hn (empty l p) gone-turn oz (shut-writes (get_or a.blocks n closed) oz) gone-kept nobody)
        go (no p) =
            let some : 1 ≤ length l = omega arith in
            let u = l-data some (first l 0) (first-in l 0 some) in
            let v = l-data some (last_of l 0) (tally-last l 0 some) in
            rw (
              e17,
              ne_eqb (length l) 0 p,
              c.start,
              sector-data M S z (first l 0) u,
              e15,
              sector-data M S z (last_of l 0) v,
              r.free.size,
              r.free.end,
              last_ok some,
              le-ltb 65535 (length fr + length l) (omega (arith, few M S z img tab a r s hs)),
              r.free.start,
              stores-eq some,
            )
            (refl, gone-puts, gone-within, λ plain. hang-step some n tab' (get_or a.blocks n closed) hn gone-turn oz gone-kept nobody)

    -- ---- the slot gets another name
    module _ (nn : List ℕ) (ln : length nn ≡ 11) (newlive : live nn 0 ≡ true) where
      abbrev qs : List Put
      qs = put 4 nn ∷ []

      abbrev tab'' : List ℕ
      tab'' = puts tab (320 * n) qs

      abbrev img'' : List ℕ
      img'' = stored img (store (o / 256) (o % 256 + 0) nn ∷ [])

      short : 0 + length nn ≤ 24
      short = omega (arith, ln)

      named-kept : Keeps S (slots_of a.dir) tab'' n (set a.slots s (with_name f nn)) (get_or a.blocks n closed)
      named-kept =
          idle-kept M S z img tab a r n hn tab'' (set a.slots s (with_name f nn)) oz (puts-off qs tab (320 * n) (320 * n + 2) (omega (arith, ln)))
          (tp-same tab tab'' n (λ i h. puts-off qs tab (320 * n) (320 * n + i) (omega (arith, ln, h))))

      off : (p : ℕ) → (o ≤ p → p < o + 11 → ⊥) → get_or img'' p 0 ≡ get_or img p 0
      off p h = slot-off M S z img tab a r s hs 0 nn short p (λ u v. h (omega arith) (omega (arith, ln)))

      named-holds : Holds S img'' o (with_name f nn)
      named-holds =
          let h = r.holds s hs in
          record {
            at = h.at;
            name = part-is img'' o 11 nn ln (λ i b. slot_at M S z img tab a r s hs 0 nn short i (o + i) (omega (arith, ln)) (omega arith));
            mode = part_same img img'' (o + 11) (o + 11) 2 (λ i b. off (o + 11 + i) (λ u v. omega arith)) ∙ h.mode;
            ends = part_same img img'' (o + 13) (o + 13) 6 (λ i b. off (o + 13 + i) (λ u v. omega arith)) ∙ h.ends;
            map = part_same img img'' (o + 19) (o + 19) 1 (λ i b. off (o + 19 + i) (λ u v. omega arith)) ∙ h.map;
            date = part_same img img'' (o + 20) (o + 20) 4 (λ i b. off (o + 20 + i) (λ u v. omega arith)) ∙ h.date;
            chain = λ v. chain_same S img img'' l (o + 13) (λ i b. off (o + 13 + i) (λ u v. omega arith))
                (λ j i t b. off (256 * j + i) (λ u v. omega (arith, oapart j (secs-off M S z img tab a r s hs j t), orow))) c;
            dead = λ v. absurd-bool newlive v;
            recs = h.recs ∙ sym (pieces-same 2 2 img img'' l (λ j i t u b. off (256 * j + i) (λ u v. omega (arith, oapart j (secs-off M S z img tab a r s hs j t), orow))));
            body = h.body ∙ sym (pieces-same 4 252 img img'' l (λ j i t u b. off (256 * j + i) (λ u v. omega (arith, oapart j (secs-off M S z img tab a r s hs j t), orow))));
          }

      rename-step : Agrees M S (stored img (store (o / 256) (o % 256) nn ∷ [])) tab'' (set_file a s (with_name f nn) n (get_or a.blocks n closed))
      rename-step =
          subst (λ (x : ℕ). Agrees M S (stored img (store (o / 256) x nn ∷ [])) tab'' (set_file a s (with_name f nn) n (get_or a.blocks n closed))) (omega arith)
          (step M S z img tab a r img'' tab'' [] a.free a.spare n s (with_name f nn) (get_or a.blocks n closed) hn hs
          (slot-frame M S z img tab a r s hs 0 nn short) (turned tab n qs (omega (arith, ln))) (slot-free M S z img tab a r s hs 0 nn short) (slot-spare M S z img tab a r s hs 0 nn short) named-holds named-kept
          (λ x h. absurd (omega arith)) (λ x. refl) nobody
          (λ n' h e w. absurd (omega (arith, w, shut-writes (get_or a.blocks n closed) oz))) (λ n' h e w. absurd (omega (arith, w, oz))))

module _ (M S : ℕ) (z : Shape M S) (img tab : List ℕ) (a : Ledger) (r : Agrees M S img tab a) (n : ℕ) (hn : n < 8) (oz : opens (get_or a.blocks n closed) ≡ 0) where
  abbrev nm : List ℕ
  nm = part tab (320 * n + 4) 11

  abbrev nn : List ℕ
  nn = part tab (320 * n + 53) 11

  pub delete-meets : (b : ℕ) → Meets M S img tab n (delete img tab M S (320 * n)) (deleted M S a n (request tab (320 * n) b))
  unfolding delete deleted
  delete-meets b =
      meets-unless M S img tab n (legal tab (320 * n + 4)) (legal nm 0) 21 _ _ (legal-part tab (320 * n + 4)) (omega arith)
      (λ h. rw (find-is M S z img tab a r nm) (go (file_named nm a.slots) refl))
    where
      go : (x : Sought) → file_named nm a.slots ≡ x
          → Meets M S img tab n
          (on_slot (looked_up (slots_of a.dir) x) 5 4 (λ slot. pick (in_use true tab (place_of S slot)) (refuse 2)
          (pick (delete_protected (attributes_at img slot)) (refuse 12) (pick (write_protected (attributes_at img slot)) (refuse 11) (remove img M S slot)))))
          (on_sought x (denied 4) (λ s. pick (busy true s a.blocks 8) (denied 2)
          (pick (delete_protected (attributes a s)) (denied 12) (pick (write_protected (attributes a s)) (denied 11)
          (granted 0 (set_free a (a.free ++ (get_or a.slots s no_file).secs) (a.spare ++ joined (get_or a.slots s no_file).recs (get_or a.slots s no_file).body) s (with_mark (get_or a.slots s no_file)) n (get_or a.blocks n closed))
          (put 4 (entry_of (with_mark (get_or a.slots s no_file))) ∷ []))))))
      go nowhere e = (refl, omega arith)
      go (slot s) e =
          let q = seek_found (λ x. named x nm 0) a.slots s e in
          let hs : s < length (slots_of a.dir) = omega (arith, q.low, r.ns) in
          let alive = (named-hit (get_or a.slots s no_file).name nm q.hit).alive in
          let at = attributes-is M S z img tab a r s hs in
          meets-when M S img tab n (in_use true tab (place_of S (get_or (slots_of a.dir) s 0))) (busy true s a.blocks 8) 2 _ _ (in-use-is M S z img tab a r true s hs) (omega arith)
          (λ h2. meets-when M S img tab n _ (delete_protected (attributes a s)) 12 _ _ (ap delete_protected at) (omega arith)
          (λ h12. meets-when M S img tab n _ (write_protected (attributes a s)) 11 _ _ (ap write_protected at) (omega arith)
          (λ h11. remove-meets M S z img tab a r s hs alive n hn oz h2)))

  pub rename-meets : (b : ℕ) → Meets M S img tab n (rename img tab M S (320 * n)) (renamed M S a n (request tab (320 * n) b))
  unfolding rename renamed
  rename-meets b =
      meets-unless M S img tab n (legal tab (320 * n + 4)) (legal nm 0) 21 _ _ (legal-part tab (320 * n + 4)) (omega arith)
      (λ h. meets-unless M S img tab n (legal tab (320 * n + 53)) (legal nn 0) 21 _ _ (legal-part tab (320 * n + 53)) (omega arith)
      (λ h'. rw (find-is M S z img tab a r nm, find-is M S z img tab a r nn) (go (legal-live nn h') (file_named nm a.slots) refl (file_named nn a.slots))))
    where
      go : live nn 0 ≡ true → (x : Sought) → file_named nm a.slots ≡ x → (y : Sought)
          → Meets M S img tab n
          (on_slot (looked_up (slots_of a.dir) x) 5 4 (λ slot. pick (in_use true tab (place_of S slot)) (refuse 2)
          (pick (write_protected (attributes_at img slot)) (refuse 11)
          (on_none (looked_up (slots_of a.dir) y) 5 3 (done 0 (store (slot / 256) (slot % 256) nn ∷ []) (put 4 nn ∷ []))))))
          (on_sought x (denied 4) (λ s. pick (busy true s a.blocks 8) (denied 2)
          (pick (write_protected (attributes a s)) (denied 11)
          (on_sought y (granted 0 (set_file a s (with_name (get_or a.slots s no_file) nn) n (get_or a.blocks n closed)) (put 4 nn ∷ [])) (λ t. denied 3)))))
      go v nowhere e y = (refl, omega arith)
      go v (slot s) e y =
          let q = seek_found (λ x. named x nm 0) a.slots s e in
          let hs : s < length (slots_of a.dir) = omega (arith, q.low, r.ns) in
          let alive = (named-hit (get_or a.slots s no_file).name nm q.hit).alive in
          meets-when M S img tab n (in_use true tab (place_of S (get_or (slots_of a.dir) s 0))) (busy true s a.blocks 8) 2 _ _ (in-use-is M S z img tab a r true s hs) (omega arith)
          (λ h2. meets-when M S img tab n _ (write_protected (attributes a s)) 11 _ _ (ap write_protected (attributes-is M S z img tab a r s hs)) (omega arith)
          (λ h11. last s hs alive h2 v y))
        where
          last : (s : ℕ) (hs : s < length (slots_of a.dir)) → live (get_or a.slots s no_file).name 0 ≡ true → busy true s a.blocks 8 ≡ false
              → live nn 0 ≡ true → (y : Sought)
              → Meets M S img tab n
              (on_none (looked_up (slots_of a.dir) y) 5 3 (done 0 (store (get_or (slots_of a.dir) s 0 / 256) (get_or (slots_of a.dir) s 0 % 256) nn ∷ []) (put 4 nn ∷ [])))
              (on_sought y (granted 0 (set_file a s (with_name (get_or a.slots s no_file) nn) n (get_or a.blocks n closed)) (put 4 nn ∷ [])) (λ t. denied 3))
          last s hs alive h2 v (slot t) = (refl, omega arith)
          last s hs alive h2 v nowhere = (refl, refl, omega (arith, length_part tab (320 * n + 53) 11), λ plain. rename-step M S z img tab a r s hs alive n hn oz h2 nn (length_part tab (320 * n + 53) 11) v)
