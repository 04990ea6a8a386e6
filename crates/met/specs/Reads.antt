-- Function 0 in reading, and rewind.
use Rattle.std.specs.Prelude.{◌≡◌, ◌≢◌, ℕ, suc, ◌+◌, ◌-◌, ◌*◌, ◌%◌, ◌≤◌, ◌<◌, ltb}
use Rattle.std.proofs.Math.Path.{refl, sym, ap, ap₂}
use Rattle.std.proofs.Common.{◌∙◌, subst}
use Rattle.std.proofs.Math.Bool.{false}
use mathlib.Core.List.{List, [], ◌∷◌}
use native.Mathlib.Omega.{arith}
use Rattle.std.proofs.Math.Decide.{ℕ_discrete, dec_lt}
use Rattle.std.proofs.Math.ListN.{length, get_or, get_or-eq_default}
use Rattle.std.proofs.Math.Dec.{eqb}
use borrow.Author.Tests.{ne_eqb, eq-eqb, le-ltb, lt-ltb}
use Rattle.rules.specs.Bytes.{pick, byte_at, part, one, two}
use Rattle.rules.specs.Stores.{Put, put, puts}
use Rattle.rules.specs.Image.{index, is_data, adr}
use Rattle.rules.specs.Directory.{slots_of}
use Rattle.rules.specs.Outcome.{refuse, done}
use Rattle.rules.specs.Transfer.{next_to_read, load_puts, load, reading as read_byte}
use Rattle.rules.specs.Files.{rewind}
use Rattle.laws.specs.Bytes.{word-put, word_same, part_at, length_part, length-one}
use Rattle.chains.specs.Tally.{tally}
use Rattle.laws.specs.Addresses.{Shape}
use Rattle.chains.specs.Addresses.{adr-zero}
use Rattle.chains.specs.Data.{InData, sector-pos, sector-small, sector-index, sector-data}
use Rattle.chains.specs.Chain.{tally-get_or, seg-at, pieces-at}
use Rattle.laws.specs.Each.{Each}
use Rattle.laws.specs.Stores.{Within, puts-off, puts-at}
use Rattle.demands.specs.Ledger.{File, no_file, Block, closed, reading, Ledger, Request, denied, granted, set_block, loaded, transferred, rewound}
use Rattle.met.specs.Sectors.{secs-data}
use Rattle.met.specs.Relation.{tb, t2, opens, writes, Holds, Reading, Keeps, Agrees, t2-same, tp-same}
use Rattle.met.specs.Quiet.{turned, on-block}
use Rattle.met.specs.Meets.{Meets, meets-pick}
use Rattle.met.specs.Picture.{sector-is}

one-head : (v : ℕ) → get_or (one v) 0 0 ≡ v
unfolding one
one-head v = refl

module _ (M S : ℕ) (z : Shape M S) (img tab : List ℕ) (a : Ledger) (r : Agrees M S img tab a) (n : ℕ) (hn : n < 8)
    (s j i : ℕ) (e : get_or a.blocks n closed ≡ reading s j i) where
  abbrev f : File
  f = get_or a.slots s no_file

  abbrev l : List ℕ
  l = f.secs

  w : Reading S (slots_of a.dir) tab n f s j i
  w = subst (λ (b : Block). Keeps S (slots_of a.dir) tab n a.slots b) e (r.keeps n hn)

  in_table : (k : ℕ) → k < 320 → 320 * n + k < length tab
  in_table k h = omega (arith, r.tlen)

  -- ---- a byte of the buffer
  abbrev gave : List Put
  gave = put 34 (one ((i + 1) % 256)) ∷ []

  module _ (h : 1 ≤ i) where
    wi : (5 ≤ i) × (i < 256) × (1 ≤ j)
    wi = w.within h

    same : (k : ℕ) → k ≢ 34 → tb (puts tab (320 * n) gave) n k ≡ tb tab n k
    same k ne = puts-off gave tab (320 * n) (320 * n + k) (omega (arith, length-one ((i + 1) % 256)))

    s2 : (k : ℕ) → k ≢ 34 → k + 1 ≢ 34 → t2 (puts tab (320 * n) gave) n k ≡ t2 tab n k
    s2 k b c = t2-same tab (puts tab (320 * n) gave) n k (same k b) (same (k + 1) c)

    gave-now : Reading S (slots_of a.dir) (puts tab (320 * n) gave) n f s j ((i + 1) % 256)
    gave-now = record {
      act = same 2 (omega arith) ∙ w.act;
      drive = same 3 (omega arith) ∙ w.drive;
      slot = w.slot;
      alive = w.alive;
      place = tp-same tab (puts tab (320 * n) gave) n (λ k h. same k (omega arith)) ∙ w.place;
      start = s2 17 (omega arith) (omega arith) ∙ w.start;
      loaded = w.loaded;
      before = λ q. s2 30 (omega arith) (omega arith) ∙ w.before q;
      after = λ q t. w.after q (sym (s2 30 (omega arith) (omega arith)) ∙ t);
      link = λ q. s2 64 (omega arith) (omega arith) ∙ w.link q;
      at = puts-at gave tab (320 * n) 0 0 (320 * n + 34) (omega arith) (omega (arith, length-one ((i + 1) % 256))) (omega arith) (in_table 34 (omega arith)) tt ∙ one-head ((i + 1) % 256);
      within = λ q. omega (arith, wi);
      buffer = λ q k b. same (68 + k) (omega arith) ∙ w.buffer h k b;
    }

    gave-step : Agrees M S img (puts tab (320 * n) gave) (set_block a n (reading s j ((i + 1) % 256)))
    gave-step =
        on-block M S z img tab a r n hn (puts tab (320 * n) gave) (reading s j ((i + 1) % 256)) (turned tab n gave (omega (arith, length-one ((i + 1) % 256)))) (ap opens (sym e)) (ap writes (sym e)) gave-now

    gave-byte : get_or tab (320 * n + (64 + i)) 0 ≡ get_or (get_or f.body (j - 1) []) (i - 4) 0
    gave-byte = ap (λ (q : ℕ). tb tab n q) (omega (arith, wi)) ∙ w.buffer h (i - 4) (omega (arith, wi))

  -- ---- the next sector
  wanted : next_to_read tab (320 * n) ≡ adr S (get_or l j 0)
  unfolding next_to_read
  wanted = go (ℕ_discrete j 0)
    where
      go : Dec (j ≡ 0) → pick (eqb (t2 tab n 30) 0) (t2 tab n 17) (t2 tab n 64) ≡ adr S (get_or l j 0)
      go (yes q) = rw (eq-eqb (t2 tab n 30) 0 (w.before q)) (w.start ∙ ap (λ (x : ℕ). adr S (get_or l x 0)) (sym q))
      go (no q) = rw (ne_eqb (t2 tab n 30) 0 (w.after (omega arith))) (w.link (omega arith))

  module _ (jl : j < length l) where
    abbrev k : ℕ
    k = get_or l j 0

    kt : 1 ≤ tally k l
    kt = tally-get_or l j jl

    kd : InData M S k
    kd = secs-data M S z img tab a r s w.slot k kt

    h : Holds S img (get_or (slots_of a.dir) s 0) f
    h = r.holds s w.slot

    abbrev ps : List Put
    ps = put 30 (two (adr S k)) ∷ put 32 (part img (256 * k + 2) 2) ∷ put 64 (part img (256 * k) 256) ∷ put 34 (one 5) ∷ []

    abbrev tab' : List ℕ
    tab' = puts tab (320 * n) ps

    l2 : length (part img (256 * k + 2) 2) ≡ 2
    l2 = length_part img (256 * k + 2) 2

    l256 : length (part img (256 * k) 256) ≡ 256
    l256 = length_part img (256 * k) 256

    lsame : (i : ℕ) → (i < 30) → tb tab' n i ≡ tb tab n i
    unfolding two one
    lsame i b = puts-off ps tab (320 * n) (320 * n + i) (omega (arith, b))

    lsame' : (i : ℕ) → (35 ≤ i) × (i < 64) → tb tab' n i ≡ tb tab n i
    unfolding two one
    lsame' i b = puts-off ps tab (320 * n) (320 * n + i) (omega (arith, b, l2))

    buf : (i : ℕ) → i < 256 → tb tab' n (64 + i) ≡ get_or img (256 * k + i) 0
    unfolding two one
    buf i b =
        puts-at ps tab (320 * n) 2 i (320 * n + (64 + i)) (omega arith) (omega (arith, l256)) (omega arith) (in_table (64 + i) (omega arith)) (omega arith)
        ∙ part_at img (256 * k) 256 i b

    pos : t2 tab' n 30 ≡ adr S k
    unfolding two one
    pos =
        word-put tab' (320 * n + 30) (adr S k) (sector-small M S z k kd)
        (puts-at ps tab (320 * n) 0 0 (320 * n + 30) (omega arith) (omega arith) (omega arith) (in_table 30 (omega arith)) (omega (arith, l2)))
        (ap (λ (p : ℕ). get_or tab' p 0) (omega arith) ∙ puts-at ps tab (320 * n) 0 1 (320 * n + 31) (omega arith) (omega arith) (omega arith) (in_table 31 (omega arith)) (omega (arith, l2)))

    data252 : (c : ℕ) → c < 252 → get_or img (256 * k + (4 + c)) 0 ≡ get_or (get_or f.body j []) c 0
    data252 c b =
        ap (λ (p : ℕ). get_or img p 0) (omega arith) ∙ sym (part_at img (256 * k + 4) 252 c b)
        ∙ ap (λ (d : List ℕ). get_or d c 0) (sym (ap (λ (b : List (List ℕ)). get_or b j []) h.body ∙ pieces-at 4 252 img l j jl))

    load-now : Reading S (slots_of a.dir) tab' n f s (suc j) 5
    unfolding one two
    load-now = record {
      act = lsame 2 (omega arith) ∙ w.act;
      drive = lsame 3 (omega arith) ∙ w.drive;
      slot = w.slot;
      alive = w.alive;
      place = tp-same tab tab' n (λ k h. lsame' k (omega arith)) ∙ w.place;
      start = t2-same tab tab' n 17 (lsame 17 (omega arith)) (lsame 18 (omega arith)) ∙ w.start;
      loaded = omega (arith, jl);
      before = λ q. absurd (omega arith);
      after = λ q t. omega (arith, pos, sector-pos M S z k kd);
      link = λ q. word_same img tab' (256 * k) (320 * n + 64) (buf 0 (omega arith) ∙ ap (λ (p : ℕ). get_or img p 0) (omega arith)) (ap (λ (p : ℕ). get_or tab' p 0) (omega arith) ∙ buf 1 (omega arith))
          ∙ seg-at S img l j jl (h.chain w.alive).seg;
      at = puts-at ps tab (320 * n) 3 0 (320 * n + 34) (omega arith) (omega arith) (omega arith) (in_table 34 (omega arith)) tt;
      within = λ q. omega arith;
      buffer = λ q c b. ap (λ (p : ℕ). get_or tab' p 0) (omega arith) ∙ buf (4 + c) (omega arith) ∙ data252 c b
          ∙ ap (λ (x : ℕ). get_or (get_or f.body x []) c 0) (omega arith);
    }

    load-within : Each Within ps
    unfolding two one
    load-within = omega (arith, l2, l256)

    -- by the ledger
    load-puts : ps ≡ loaded S f j
    unfolding loaded
    load-puts =
        let rec : part img (256 * k + 2) 2 ≡ get_or f.recs j [] = sym (ap (λ (x : List (List ℕ)). get_or x j []) h.recs ∙ pieces-at 2 2 img l j jl) in
        ap₂ (λ (x y : List ℕ). put 30 (two (adr S k)) ∷ put 32 x ∷ put 64 y ∷ put 34 (one 5) ∷ []) rec (sector-is M S z img tab a r s w.slot w.alive j jl)

    load_step : Agrees M S img tab' (set_block a n (reading s (suc j) 5))
    unfolding two one
    load_step =
        on-block M S z img tab a r n hn tab' (reading s (suc j) 5) (turned tab n ps load-within) (ap opens (sym e)) (ap writes (sym e)) load-now

    load_byte : get_or img (256 * k + 4) 0 ≡ get_or (get_or f.body j []) 0 0
    load_byte = ap (λ (p : ℕ). get_or img p 0) (omega arith) ∙ data252 0 (omega arith)

  load-meets : Meets M S img tab n (load img M S (adr S (get_or l j 0)))
      (pick (ltb j (length l)) (granted (get_or (get_or f.body j []) 0 0) (set_block a n (reading s (suc j) 5)) (loaded S f j)) (denied 8))
  unfolding load load_puts
  load-meets = go (dec_lt j (length l))
    where
      go : Dec (j < length l) → Meets M S img tab n
          (pick (eqb (adr S (get_or l j 0)) 0) (refuse 8)
          (pick (is_data M S (adr S (get_or l j 0))) (done (byte_at img (256 * index S (adr S (get_or l j 0)) + 4)) [] (load_puts img (adr S (get_or l j 0)) (index S (adr S (get_or l j 0))))) (refuse 9)))
          (pick (ltb j (length l)) (granted (get_or (get_or f.body j []) 0 0) (set_block a n (reading s (suc j) 5)) (loaded S f j)) (denied 8))
      go (yes jl) =
          rw (
            ne_eqb (adr S (get_or l j 0)) 0 (omega (arith, sector-pos M S z (get_or l j 0) (kd jl))),
            sector-data M S z (get_or l j 0) (kd jl),
            sector-index M S z (get_or l j 0) (kd jl),
            lt-ltb j (length l) jl,
          )
          (load_byte jl, load-puts jl, load-within jl, λ plain. load_step jl)
      go (no jl) =
          let p : adr S (get_or l j 0) ≡ 0 = ap (adr S) (get_or-eq_default l 0 (omega arith)) ∙ adr-zero S in
          rw (eq-eqb (adr S (get_or l j 0)) 0 p, le-ltb j (length l) (omega arith)) (refl, omega arith)

  pub read_meets : (q : Request) → Meets M S img tab n (read_byte img tab M S (320 * n)) (transferred M S a n q (reading s j i))
  unfolding read_byte
  read_meets q =
      meets-pick M S img tab n (eqb (tb tab n 34) 0) (eqb i 0) _ _ _ _ (ap (λ (x : ℕ). eqb x 0) w.at)
      (λ h. rw wanted load-meets)
      (λ h. rw w.at (gave-byte (pos_of h), refl, (omega (arith, length-one ((i + 1) % 256)), tt), λ plain. gave-step (pos_of h)))
    where
      pos_of : eqb i 0 ≡ false → 1 ≤ i
      pos_of h = let ne : i ≢ 0 = borrow.Author.Tests.eqb-false i 0 h in omega arith

  -- ---- rewind
  abbrev rs : List Put
  rs = put 0 (one 0) ∷ put 30 (two 0) ∷ put 34 (one 0) ∷ []

  rsame : (k : ℕ) → 2 ≤ k → k ≢ 30 → k ≢ 31 → k ≢ 34 → tb (puts tab (320 * n) rs) n k ≡ tb tab n k
  unfolding one two
  rsame k b0 b1 b2 b3 = puts-off rs tab (320 * n) (320 * n + k) (omega arith)

  rewind-now : Reading S (slots_of a.dir) (puts tab (320 * n) rs) n f s 0 0
  unfolding one two
  rewind-now = record {
    act = rsame 2 (omega arith) (omega arith) (omega arith) (omega arith) ∙ w.act;
    drive = rsame 3 (omega arith) (omega arith) (omega arith) (omega arith) ∙ w.drive;
    slot = w.slot;
    alive = w.alive;
    place = tp-same tab (puts tab (320 * n) rs) n (λ k h. rsame k (omega arith) (omega arith) (omega arith) (omega arith)) ∙ w.place;
    start = t2-same tab (puts tab (320 * n) rs) n 17 (rsame 17 (omega arith) (omega arith) (omega arith) (omega arith)) (rsame 18 (omega arith) (omega arith) (omega arith) (omega arith)) ∙ w.start;
    loaded = omega arith;
    before = λ q. word-put (puts tab (320 * n) rs) (320 * n + 30) 0 (omega arith)
        (puts-at rs tab (320 * n) 1 0 (320 * n + 30) (omega arith) (omega arith) (omega arith) (in_table 30 (omega arith)) (omega arith))
        (ap (λ (p : ℕ). get_or (puts tab (320 * n) rs) p 0) (omega arith) ∙ puts-at rs tab (320 * n) 1 1 (320 * n + 31) (omega arith) (omega arith) (omega arith) (in_table 31 (omega arith)) (omega arith));
    after = λ q. absurd (omega arith);
    link = λ q. absurd (omega arith);
    at = puts-at rs tab (320 * n) 2 0 (320 * n + 34) (omega arith) (omega arith) (omega arith) (in_table 34 (omega arith)) tt;
    within = λ q. absurd (omega arith);
    buffer = λ q. absurd (omega arith);
  }

  pub rewind-meets : (q : Request) → Meets M S img tab n rewind (rewound M S a n q (reading s j i))
  unfolding rewind one two
  rewind-meets q =
      (refl, refl, (omega arith, (omega arith, (omega arith, tt))), λ plain. on-block M S z img tab a r n hn (puts tab (320 * n) rs) (reading s 0 0) (turned tab n rs (omega arith)) (ap opens (sym e)) (ap writes (sym e)) rewind-now)
