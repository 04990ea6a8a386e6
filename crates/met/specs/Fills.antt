-- A byte written inside a sector; the last sector of a file stored; close.
use Rattle.std.specs.Prelude.{◌≡◌, ◌≢◌, true, ℕ, ◌+◌, ◌*◌, ◌%◌, ◌≤◌, ◌<◌, set, Ok}
use Rattle.std.proofs.Math.Path.{refl, sym, ap, ap₂, subst}
use Rattle.std.proofs.Common.{◌∙◌, get_or-set_same}
use mathlib.Core.List.{List, [], ◌∷◌, ◌++◌}
use native.Mathlib.Omega.{arith}
use Rattle.std.proofs.Math.Decide.{ℕ_discrete}
use Rattle.std.proofs.Math.ListN.{length, get_or}
use Rattle.std.proofs.Math.Dec.{eqb}
use borrow.Author.Tests.{ne_eqb, eq-eqb, eqb-false, eqb-true}
use Rattle.rules.specs.Image.{adr}
use Rattle.rules.specs.Bytes.{part, one}
use Rattle.rules.specs.Stores.{Store, store, stored, Put, put, puts}
use Rattle.rules.specs.Directory.{slots_of, live, last_of, first}
use Rattle.rules.specs.Transfer.{slot_in, shut, mark, close_writing, close}
use Rattle.laws.specs.Bytes.{part-is, part_same}
use Rattle.chains.specs.Tally.{tally, tally-head, apart}
use Rattle.laws.specs.Addresses.{Shape}
use Rattle.chains.specs.Chain.{Chain, set_last, pieces, pieces-same, pieces-last, tally-last, chain_same, in_one, empty}
use Rattle.chains.specs.Data.{sector-index, sector-data, last-data, last_none}
use Rattle.chains.specs.Directory.{spot, placed-spot}
use Rattle.chains.specs.Snoc.{snoc-other, snoc-last, length-snoc}
use Rattle.laws.specs.Each.{Each}
use Rattle.laws.specs.Stores.{Within, stored-off, stored_at, puts-off, puts-at}
use Rattle.chains.specs.Frame.{Frame, in_sector}
use Rattle.chains.proofs.Frame.{framed}
use Rattle.demands.specs.Ledger.{File, no_file, Block, closed, listing, reading, writing, Ledger, Request, set_block, set_file, with_last, pad_to, shut_block}
use Rattle.met.specs.Relation.{tb, t2, opens, writes, Holds, Reading, Writing, Listed, Keeps, Agrees, t2-same, tp-same, Turn, step}
use Rattle.met.specs.Quiet.{turned, on-block, shut-block, alone1, alone2, nobody}
use Rattle.met.specs.Meets.{Meets, meets-pick}
use Rattle.met.specs.Sectors.{secs-data, secs-off, secs-once, fits, length-pad, pad-at}
use Rattle.met.specs.Marks.{slot_row, slot_apart, mark-step}

pub one-is : (v : ℕ) → one v ≡ v ∷ []
unfolding one
one-is v = refl

module _ (M S : ℕ) (z : Shape M S) (img tab : List ℕ) (a : Ledger) (r : Agrees M S img tab a) where
  -- ---- the last sector of a live slot gets the bytes v
  module _ (s : ℕ) (hs : s < length (slots_of a.dir)) (live : live (get_or a.slots s no_file).name 0 ≡ true)
      (some : 1 ≤ length (get_or a.slots s no_file).secs) (v : List ℕ) (lv : length v ≡ 252) where
    abbrev f : File
    f = get_or a.slots s no_file

    abbrev o : ℕ
    o = get_or (slots_of a.dir) s 0

    abbrev k : ℕ
    k = last_of f.secs 0

    kt : 1 ≤ tally k f.secs
    kt = tally-last f.secs 0 some

    kd : (S ≤ k) × (k < (M + 1) * S)
    kd = secs-data M S z img tab a r s hs k kt

    abbrev ws : List Store
    ws = store k 4 v ∷ []

    abbrev img' : List ℕ
    img' = stored img ws

    fill_frame : Frame S a.dir img img' (k ∷ []) s
    fill_frame = framed M S z.sectors a.dir r.listing s hs img (k ∷ []) ws (in_sector k 4 v kd.0 (secs-off M S z img tab a r s hs k kt) (tally-head k []) (omega (arith, lv)) (λ j b. absurd (omega arith)), tt)

    off : (p : ℕ) → (256 * k + 4 ≤ p → p < 256 * k + 256 → ⊥) → get_or img' p 0 ≡ get_or img p 0
    off p h = stored-off ws img p ((λ u v. h u (omega (arith, lv))), tt)

    fill-free : Chain S img' 541 a.free
    fill-free =
        chain_same S img img' a.free 541 (λ i h. off (541 + i) (λ u v. omega (arith, kd, z.sectors)))
        (λ j i h c. off (256 * j + i) (λ u v. omega arith)) r.free

    -- it is not free
    fill-spare : a.spare ≡ pieces 2 254 img' a.free
    fill-spare =
        r.spare
        ∙ sym (pieces-same 2 254 img img' a.free
        (λ j i h b c. off (256 * j + i) (λ u v. apart a.free f.secs j k (λ x. secs-once M S z img tab a r s hs x) h kt (omega arith))))

    fill_holds : Holds S img' o (with_last f v)
    fill_holds =
        let h = r.holds s hs in
        let row = slot_row M S z img tab a r s hs in
        let far = slot_apart M S z img tab a r s hs k (secs-off M S z img tab a r s hs k kt) in
        let at : (p : ℕ) → o ≤ p → p < o + 24 → get_or img' p 0 ≡ get_or img p 0 = λ p b c. off p (λ u v. omega (arith, far, row)) in
        record {
          at = h.at;
          name = part_same img img' o o 11 (λ i b. at (o + i) (omega arith) (omega arith)) ∙ h.name;
          mode = part_same img img' (o + 11) (o + 11) 2 (λ i b. at (o + 11 + i) (omega arith) (omega arith)) ∙ h.mode;
          ends = part_same img img' (o + 13) (o + 13) 6 (λ i b. at (o + 13 + i) (omega arith) (omega arith)) ∙ h.ends;
          map = part_same img img' (o + 19) (o + 19) 1 (λ i b. at (o + 19 + i) (omega arith) (omega arith)) ∙ h.map;
          date = part_same img img' (o + 20) (o + 20) 4 (λ i b. at (o + 20 + i) (omega arith) (omega arith)) ∙ h.date;
          chain = λ q. chain_same S img img' f.secs (o + 13) (λ i b. at (o + 13 + i) (omega arith) (omega arith)) (λ j i t b. off (256 * j + i) (λ u v. omega arith)) (h.chain q);
          dead = h.dead;
          recs = h.recs ∙ sym (pieces-same 2 2 img img' f.secs (λ j i t u b. off (256 * j + i) (λ x y. omega arith)));
          body = ap (λ (b : List (List ℕ)). set_last b v) h.body
              ∙ sym (pieces-last 4 252 img img' f.secs v (λ x. omega (arith, secs-once M S z img tab a r s hs x))
              (λ j i t ne b. off (256 * j + i) (λ u v. omega (arith, ne)))
              (λ q. part-is img' (256 * k + 4) 252 v lv
              (λ i b. stored_at ws img 0 i (256 * k + 4 + i) (omega arith) (omega (arith, lv)) refl (omega (arith, fits M S z img tab a r k kd.1)) tt)));
        }

    -- block n, which writes the file, becomes b
    pub fill_step : (n : ℕ) (tab' : List ℕ) (b : Block) (ub : List ℕ) → n < 8 → Turn tab tab' n → get_or a.blocks n closed ≡ writing s ub
        → Keeps S (slots_of a.dir) tab' n (set a.slots s (with_last f v)) b
        → ((n' : ℕ) → n' < 8 → n' ≢ n → 1 ≤ writes b → writes b ≢ opens (get_or a.blocks n' closed))
        → ((n' : ℕ) → n' < 8 → n' ≢ n → 1 ≤ opens b → writes (get_or a.blocks n' closed) ≢ opens b)
        → Agrees M S img' tab' (set_file a s (with_last f v) n b)
    fill_step n tab' b ub hn t e kb p q =
        step M S z img tab a r img' tab' (k ∷ []) a.free a.spare n s (with_last f v) b hn hs fill_frame t fill-free fill-spare fill_holds kb
        (λ x h. let y : x ≡ k = in_one x k h in subst (λ (c : ℕ). 1 ≤ tally c a.free + tally c f.secs) (sym y) (omega (arith, kt)))
        (λ x. refl) (nobody M S z img tab a r n hn s ub e) p q

  module _ (n : ℕ) (hn : n < 8) where
    in_table : (k : ℕ) → k < 320 → 320 * n + k < length tab
    in_table k h = omega (arith, r.tlen)

    module _ (s : ℕ) (ub : List ℕ) (e : get_or a.blocks n closed ≡ writing s ub) where
      abbrev g : File
      g = get_or a.slots s no_file

      pub w : Writing S (slots_of a.dir) tab n g s ub
      w = subst (λ (b : Block). Keeps S (slots_of a.dir) tab n a.slots b) e (r.keeps n hn)

      -- the buffer
      pub buffer-is : (c : ℕ) → 1 ≤ length ub → c ≤ 252 → part tab (320 * n + 68) c ≡ pad_to c ub
      buffer-is c h b =
          part-is tab (320 * n + 68) c (pad_to c ub) (length-pad c ub)
          (λ i l. ap (λ (p : ℕ). get_or tab p 0) (omega arith) ∙ w.buffer h i (omega arith) ∙ sym (pad-at c ub i l))

      -- the place
      pub placed-is : slot_in img tab M S (320 * n) ≡ Ok (get_or (slots_of a.dir) s 0)
      placed-is =
          rw w.place (placed-spot M S z a.dir r.listing img r.dir s (get_or (slots_of a.dir) s 0) (spot M S a.dir r.listing s w.slot))

      -- ---- a byte inside a sector
      module _ (b : ℕ) (h : 1 ≤ length ub) where
        abbrev ps : List Put
        ps = put (64 + (4 + length ub)) (one b) ∷ put 34 (one ((4 + length ub + 1) % 256)) ∷ []

        abbrev tab' : List ℕ
        tab' = puts tab (320 * n) ps

        same : (i : ℕ) → i ≢ 34 → i ≢ 68 + length ub → tb tab' n i ≡ tb tab n i
        unfolding one
        same i u v = puts-off ps tab (320 * n) (320 * n + i) (omega arith)

        s2 : (i : ℕ) → i < 33 → t2 tab' n i ≡ t2 tab n i
        s2 i b = t2-same tab tab' n i (same i (omega arith) (omega arith)) (same (i + 1) (omega arith) (omega arith))

        -- what the buffer has then, where the last byte is not at its end
        module _ (k : length ub < 251) where
          buf : (k : ℕ) → k < 252 → Dec (k ≡ length ub) → tb tab' n (68 + k) ≡ get_or (ub ++ b ∷ []) k 0
          unfolding one
          buf k l (yes q) =
              puts-at ps tab (320 * n) 0 0 (320 * n + (68 + k)) (omega arith) (omega arith) (omega arith) (in_table (68 + k) (omega arith)) (omega arith)
              ∙ sym (ap (λ (j : ℕ). get_or (ub ++ b ∷ []) j 0) q ∙ snoc-last ub b)
          buf k l (no q) = same (68 + k) (omega arith) (omega arith) ∙ w.buffer h k l ∙ sym (snoc-other ub b k q)

          write-now : Writing S (slots_of a.dir) tab' n g s (ub ++ b ∷ [])
          unfolding one
          write-now = record {
            act = same 2 (omega arith) (omega arith) ∙ w.act;
            drive = same 3 (omega arith) (omega arith) ∙ w.drive;
            slot = w.slot;
            alive = w.alive;
            place = tp-same tab tab' n (λ i h. same i (omega arith) (omega arith)) ∙ w.place;
            start = s2 17 (omega arith) ∙ w.start;
            size = s2 21 (omega arith) ∙ w.size;
            pos = s2 30 (omega arith) ∙ w.pos;
            idle = λ q. absurd (omega (arith, length-snoc ub b));
            busy = λ q. puts-at ps tab (320 * n) 1 0 (320 * n + 34) (omega arith) (omega arith) (omega arith) (in_table 34 (omega arith)) tt ∙ omega (arith, length-snoc ub b);
            short = omega (arith, length-snoc ub b);
            some = λ q. w.some h;
            buffer = λ q k l. buf k l (ℕ_discrete k (length ub));
          }

          pub write-in : Agrees M S img tab' (set_block a n (writing s (ub ++ b ∷ [])))
          unfolding one
          write-in =
              on-block M S z img tab a r n hn tab' (writing s (ub ++ b ∷ [])) (turned tab n ps (omega arith)) (ap opens (sym e)) (ap writes (sym e)) write-now

      -- ---- the byte at index 255
      abbrev fs : ℕ → List Put
      fs b = put (64 + 255) (one b) ∷ put 34 (one ((255 + 1) % 256)) ∷ []

      fsame : (b i : ℕ) → i < 319 → i ≢ 34 → tb (puts tab (320 * n) (fs b)) n i ≡ tb tab n i
      unfolding one
      fsame b i u v = puts-off (fs b) tab (320 * n) (320 * n + i) (omega arith)

      full-now : (b : ℕ) (f' : File) → f'.secs ≡ g.secs → f'.name ≡ g.name → 1 ≤ length g.secs
          → Writing S (slots_of a.dir) (puts tab (320 * n) (fs b)) n f' s []
      unfolding one
      full-now b f' es en so = record {
        act = fsame b 2 (omega arith) (omega arith) ∙ w.act;
        drive = fsame b 3 (omega arith) (omega arith) ∙ w.drive;
        slot = w.slot;
        alive = ap (λ (x : List ℕ). live x 0) en ∙ w.alive;
        place = tp-same tab (puts tab (320 * n) (fs b)) n (λ i h. fsame b i (omega arith) (omega arith)) ∙ w.place;
        start = t2-same tab (puts tab (320 * n) (fs b)) n 17 (fsame b 17 (omega arith) (omega arith)) (fsame b 18 (omega arith) (omega arith)) ∙ w.start ∙ ap (λ (x : List ℕ). adr S (first x 0)) (sym es);
        size = t2-same tab (puts tab (320 * n) (fs b)) n 21 (fsame b 21 (omega arith) (omega arith)) (fsame b 22 (omega arith) (omega arith)) ∙ w.size ∙ ap length (sym es);
        pos = t2-same tab (puts tab (320 * n) (fs b)) n 30 (fsame b 30 (omega arith) (omega arith)) (fsame b 31 (omega arith) (omega arith)) ∙ w.pos ∙ ap (λ (x : List ℕ). adr S (last_of x 0)) (sym es);
        idle = λ h. puts-at (fs b) tab (320 * n) 1 0 (320 * n + 34) (omega arith) (omega arith) (omega arith) (in_table 34 (omega arith)) tt;
        busy = λ h. absurd (omega arith);
        short = omega arith;
        some = λ h. absurd (omega arith);
        buffer = λ h. absurd (omega arith);
      }

      pub full-step : (b : ℕ) → length ub ≡ 251
          → Agrees M S (stored img (store (last_of g.secs 0) 4 (pad_to 251 ub ++ b ∷ []) ∷ [])) (puts tab (320 * n) (fs b)) (set_file a s (with_last g (pad_to 251 ub ++ b ∷ [])) n (writing s []))
      unfolding one
      full-step b lb =
          let so : 1 ≤ length g.secs = w.some (omega arith) in
          let v = pad_to 251 ub ++ b ∷ [] in
          fill_step s w.slot w.alive so v (omega (arith, length-snoc (pad_to 251 ub) b, length-pad 251 ub)) n (puts tab (320 * n) (fs b)) (writing s []) ub hn (turned tab n (fs b) (omega arith)) e
          (subst (λ (f' : File). Writing S (slots_of a.dir) (puts tab (320 * n) (fs b)) n f' s []) (sym (get_or-set_same a.slots s (with_last g v) no_file (omega (arith, r.ns, w.slot))))
          (full-now b (with_last g v) refl refl so))
          (alone1 M S z img tab a r n hn (writing s []) (ap opens (sym e)) (ap writes (sym e)))
          (alone2 M S z img tab a r n hn (writing s []) (ap opens (sym e)))

    -- ---- close
    abbrev shut_ps : List Put
    shut_ps = put 2 (one 0) ∷ []

    shut-within : Each Within shut_ps
    unfolding one
    shut-within = (omega arith, tt)

    shut-turn : Turn tab (puts tab (320 * n) shut_ps) n
    unfolding one
    shut-turn = turned tab n shut_ps (omega arith)

    shut-now : tb (puts tab (320 * n) shut_ps) n 2 ≡ 0
    unfolding one
    shut-now = puts-at shut_ps tab (320 * n) 0 0 (320 * n + 2) (omega arith) (omega arith) (omega arith) (in_table 2 (omega arith)) tt

    shut-step : Agrees M S img (puts tab (320 * n) shut_ps) (set_block a n closed)
    shut-step = shut-block M S z img tab a r n hn (puts tab (320 * n) shut_ps) closed shut-turn refl refl shut-now

    close-writing : (q : Request) (s : ℕ) (ub : List ℕ) → get_or a.blocks n closed ≡ writing s ub
        → Meets M S img tab n (close_writing img tab M S (320 * n)) (shut_block M S a n q (writing s ub))
    unfolding close_writing shut mark
    close-writing q s ub e =
        let w = w s ub e in
        let sd = secs-data M S z img tab a r s w.slot in
        meets-pick M S img tab n (eqb (t2 tab n 30) 0) (eqb (length (g s ub e).secs) 0) _ _ _ _ (ap (λ (x : ℕ). eqb x 0) w.pos ∙ last_none M S z (g s ub e).secs sd)
        (λ h. rw (placed-is s ub e) (
          refl,
          refl,
          shut-within,
          λ plain. mark-step M S z img tab a r s w.slot n (puts tab (320 * n) shut_ps) closed hn (empty (g s ub e).secs (eqb-true (length (g s ub e).secs) 0 h)) shut-turn refl refl shut-now
              (nobody M S z img tab a r n hn s ub e),
        ))
        (λ h. meets-pick M S img tab n (eqb (tb tab n 34) 0) (eqb (length ub) 0) _ _ _ _ (index-none w)
        (λ h1. (refl, refl, shut-within, λ plain. shut-step))
        (λ h1.
        let ne : length ub ≢ 0 = eqb-false (length ub) 0 h1 in
        let so = w.some (omega arith) in
        let ld = last-data M S z (g s ub e).secs sd so in
        rw (w.pos, sector-data M S z (last_of (g s ub e).secs 0) ld, sector-index M S z (last_of (g s ub e).secs 0) ld, buffer-is s ub e 252 (omega arith) (omega arith)) (
          refl,
          refl,
          shut-within,
          λ plain. fill_step s w.slot w.alive so (pad_to 252 ub) (length-pad 252 ub) n (puts tab (320 * n) shut_ps) closed ub hn shut-turn e shut-now
              (λ n' h e w. absurd (omega arith)) (λ n' h e w. absurd (omega arith)),
        )))
      where
        index-none : Writing S (slots_of a.dir) tab n (get_or a.slots s no_file) s ub → eqb (tb tab n 34) 0 ≡ eqb (length ub) 0
        index-none w = go (ℕ_discrete (length ub) 0)
          where
            go : Dec (length ub ≡ 0) → eqb (tb tab n 34) 0 ≡ eqb (length ub) 0
            go (yes p) = ap₂ (λ (x y : ℕ). eqb x y) (w.idle p) refl ∙ sym (eq-eqb (length ub) 0 p)
            go (no p) = ne_eqb (tb tab n 34) 0 (omega (arith, w.busy (omega arith))) ∙ sym (ne_eqb (length ub) 0 p)

    pub close-meets : (q : Request) (b : Block) → get_or a.blocks n closed ≡ b → b ≢ closed
        → Meets M S img tab n (close img tab M S (320 * n)) (shut_block M S a n q b)
    unfolding close shut
    close-meets q closed e ne = absurd (ne refl)
    close-meets q (listing p) e ne =
        let k : Listed S (slots_of a.dir) tab n p = subst (λ (b : Block). Keeps S (slots_of a.dir) tab n a.slots b) e (r.keeps n hn) in
        rw k.act (refl, refl, shut-within, λ plain. shut-step)
    close-meets q (reading s j i) e ne =
        let k : Reading S (slots_of a.dir) tab n (get_or a.slots s no_file) s j i =
        subst (λ (b : Block). Keeps S (slots_of a.dir) tab n a.slots b) e (r.keeps n hn) in
        rw k.act (refl, refl, shut-within, λ plain. shut-step)
    close-meets q (writing s ub) e ne =
        let k : Writing S (slots_of a.dir) tab n (get_or a.slots s no_file) s ub =
        subst (λ (b : Block). Keeps S (slots_of a.dir) tab n a.slots b) e (r.keeps n hn) in
        rw k.act (close-writing q s ub e)
