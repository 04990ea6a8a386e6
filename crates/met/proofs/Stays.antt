-- What stays after every list of calls: bytes that nobody names, free sectors while they are free, files that no call names. What 7 and 9 deliver.
use Rattle.std.specs.Prelude.{◌≡◌, ◌≢◌, true, false, ℕ, zero, suc, ◌+◌, ◌-◌, ◌*◌, ◌/◌, ◌%◌, ◌≤◌, ◌<◌, get_or, drop, eqb, ltb}
use Rattle.std.proofs.Math.Path.{refl, ap}
use Rattle.std.proofs.Common.{sym, ap₂, ◌∙◌, subst, arith, length-append, ext_get_or, eq-eqb, ne_eqb, lt-ltb, le-leb, ltb-true}
use mathlib.Core.List.{List, [], ◌∷◌, ◌++◌}
use Rattle.std.proofs.Math.Decide.{ℕ_discrete, dec_lt}
use Rattle.std.proofs.Math.ListN.{length, get_or-append}
use Rattle.rules.specs.Bytes.{pick, within, word_at, part, one, two}
use Rattle.rules.specs.Stores.{Put, put, puts}
use Rattle.rules.specs.Image.{index, is_sector, adr}
use Rattle.rules.specs.Directory.{live, slots_of, member, place_of, last_of}
use Rattle.rules.specs.Block.{idle}
use Rattle.rules.specs.Call.{served, fits}
use Rattle.laws.specs.Tests.{either, neither}
use Rattle.laws.specs.Bytes.{part_at, part-is, part_join, length_part, length-one}
use Rattle.laws.specs.Stores.{length-puts, puts-append, puts-at}
use Rattle.laws.specs.Addresses.{Shape}
use Rattle.laws.specs.Slots.{length-slots}
use Rattle.chains.specs.Addresses.{absurd-bool}
use Rattle.chains.specs.Tally.{tally, tally-append, eq1-same, eq1-ne, in-member}
use Rattle.chains.specs.Chain.{pieces, pieces-at, length-pieces, seg-at, seat, last-get_or, tally-get_or}
use Rattle.chains.specs.Directory.{slot_at, slots-append}
use Rattle.chains.specs.Walk.{chain_at}
use Rattle.demands.specs.Ledger.{Call, setting, extending, asking, File, Block, listing, Ledger, fcb, file, block, asks, activity, entry_of, image_of, Fate, denied, granted, ended, reply, set_block, with_name, shown_next, fetched, performed, called}
use Rattle.demands.specs.Service.{flex, Machine, answers, next, entry, log}
use Rattle.demands.specs.History.{then, history, scenes, raw, Plain}
use Rattle.demands.specs.Demands.{Asks, Idle, in_slot, in_link}
use Rattle.met.specs.Relation.{Agrees, all-le, all-low}
use Rattle.met.specs.Meets.{ledger_by, puts_by}
use Rattle.met.specs.Searches.{part-part}
use Rattle.met.specs.Picture.{link-is, rest-is, entry-is, sector-is, image-is}
use Rattle.met.specs.Changes.{Changes, changes, Onward, onward-same, onward_then, onward, Freed, same, fewer, more, freed}
use Rattle.met.specs.Survey.{file-back}
use Rattle.met.proofs.Runs.{scene_of, Fine, Likewise, asked, beyond, block-after, likewise-set, likewise-extend, likewise-refused, likewise-asked, step}
use Rattle.met.proofs.Sent.{called_of}

-- ---- the bytes that a free sector has

-- those that stand beside k
lookup : ℕ → List ℕ → List (List ℕ) → List ℕ
lookup k [] vs = []
lookup k (j ∷ ks) [] = []
lookup k (j ∷ ks) (v ∷ vs) = pick (eqb j k) v (lookup k ks vs)

lookup-piece : (m ks : List ℕ) (k : ℕ) → 1 ≤ tally k ks → lookup k ks (pieces 2 254 m ks) ≡ part m (256 * k + 2) 254
unfolding lookup
lookup-piece m [] k h = absurd (omega arith)
lookup-piece m (j ∷ ks) k h = go (λ t. lookup-piece m ks k t) (ℕ_discrete j k)
  where
    go : (1 ≤ tally k ks → lookup k ks (pieces 2 254 m ks) ≡ part m (256 * k + 2) 254) → Dec (j ≡ k)
        → pick (eqb j k) (part m (256 * j + 2) 254) (lookup k ks (pieces 2 254 m ks)) ≡ part m (256 * k + 2) 254
    go ih (yes e) = rw (eq-eqb j k e) (ap (λ (x : ℕ). part m (256 * x + 2) 254) e)
    go ih (no e) = rw (ne_eqb j k e) (ih (omega (arith, h, eq1-ne k j (λ x. e (sym x)))))

lookup-more : (k : ℕ) (ks ls : List ℕ) (vs ws : List (List ℕ)) → length vs ≡ length ks → 1 ≤ tally k ks
    → lookup k (ks ++ ls) (vs ++ ws) ≡ lookup k ks vs
unfolding lookup
lookup-more k [] ls vs ws e h = absurd (omega arith)
lookup-more k (j ∷ ks) ls [] ws e h = absurd (omega arith)
lookup-more k (j ∷ ks) ls (v ∷ vs) ws e h = go (λ t. lookup-more k ks ls vs ws (omega arith) t) (ℕ_discrete j k)
  where
    go : (1 ≤ tally k ks → lookup k (ks ++ ls) (vs ++ ws) ≡ lookup k ks vs) → Dec (j ≡ k)
        → pick (eqb j k) v (lookup k (ks ++ ls) (vs ++ ws)) ≡ pick (eqb j k) v (lookup k ks vs)
    go ih (yes q) = rw (eq-eqb j k q) refl
    go ih (no q) = rw (ne_eqb j k q) (ih (omega (arith, h, eq1-ne k j (λ x. q (sym x)))))

lookup-fewer : (k j : ℕ) (ks : List ℕ) (vs : List (List ℕ)) → length vs ≡ suc (length ks) → j ≢ k → lookup k ks (drop 1 vs) ≡ lookup k (j ∷ ks) vs
unfolding lookup
lookup-fewer k j ks [] e ne = absurd (omega arith)
lookup-fewer k j ks (v ∷ vs) e ne = rw (ne_eqb j k ne) refl

-- a free sector that is free afterwards has the bytes that it had
freed-same : (a : Ledger) → length a.spare ≡ length a.free → ((k : ℕ) → tally k a.free ≤ 1) → (fr : List ℕ) (vs : List (List ℕ)) → Freed a fr vs
    → (k : ℕ) → 1 ≤ tally k a.free → 1 ≤ tally k fr → lookup k fr vs ≡ lookup k a.free a.spare
freed-same a e once fr vs same k h h' = refl
freed-same a e once fr vs (fewer j gr q) k h h' =
    lookup-fewer k j gr a.spare (e ∙ ap length q) apart ∙ ap (λ (l : List ℕ). lookup k l a.spare) (sym q)
  where
    apart : j ≢ k
    apart p =
        let t : tally k a.free ≡ tally k (j ∷ gr) = ap (tally k) q in
        let u : tally k (j ∷ gr) ≡ tally k (k ∷ gr) = ap (λ (x : ℕ). tally k (x ∷ gr)) p in
        omega (arith, t, u, once k, eq1-same k)
freed-same a e once fr vs (more l ws) k h h' = lookup-more k a.free l a.spare ws e h

-- ---- the start's image stays the base, and the directory's sectors stay where they were

module _ (M S : ℕ) (z : Shape M S) where
  pub then-onward : (x : Machine) (a : Ledger) → Fine M S x a → (c : Call) → Onward S a (then M S a (entry flex x c))
  unfolding entry
  then-onward x a g (setting n i v) = let l = likewise-set M S a n i v _ _ in onward-same S a _ l.base l.dir l.heads
  then-onward x a g (extending n c) = let l = likewise-extend M S a n c _ _ in onward-same S a _ l.base l.dir l.heads
  then-onward x a g (asking n b) = go (dec_lt n 8)
    where
      by : (φ : Fate) → Changes a n (asks a n b) φ → Onward S a (ledger_by a φ)
      by (denied e) ch = onward-same S a a refl refl refl
      by (granted v a' ps) ch = onward S a a' n (asks a n b) (λ k t. all-low M S z x.img x.tab a g.agrees k (omega arith)) ch

      go : Dec (n < 8) → Onward S a (then M S a (entry flex x (asking n b)))
      go (yes h) =
          let l = likewise-asked M S x a n b (asked M S z x a g n b h) in
          onward_then S a _ _ (by (called M S a n (asks a n b)) (changes M S a n (asks a n b))) (onward-same S _ _ l.base l.dir l.heads)
      go (no h) =
          let q : answers flex x (asking n b) ≢ 0 = λ e. omega (arith, e, beyond M S z x a g n b (omega arith)) in
          let l = likewise-refused M S a n b _ _ q in
          onward-same S a _ l.base l.dir l.heads

  pub history-onward : (cs : List Call) (x : Machine) (a : Ledger) → Fine M S x a → Plain (scenes M S a (log flex x cs))
      → Onward S a (history M S a (log flex x cs))
  unfolding log history scenes entry
  history-onward [] x a g p = onward-same S a a refl refl refl
  history-onward (c ∷ cs) x a g p =
      onward_then S a _ _ (then-onward x a g c) (history-onward cs (next flex x c) (then M S a (entry flex x c)) ((step M S z x a g c).fine p.0) p.1)

  module _ (y : Machine) (a : Ledger) (g : Fine M S y a) where
    -- ---- a free sector stays while it is free
    freed-like : (c : Call) (a' : Ledger) → Likewise a' (then M S a (entry flex y c)) → Freed a a'.free a'.spare
        → Freed a (then M S a (entry flex y c)).free (then M S a (entry flex y c)).spare
    freed-like c a' l k =
        let u : a'.free ≡ (then M S a (entry flex y c)).free = sym l.free in
        let v : a'.spare ≡ (then M S a (entry flex y c)).spare = sym l.spare in
        subst (λ (w : List (List ℕ)). Freed a (then M S a (entry flex y c)).free w) v (subst (λ (w : List ℕ). Freed a w a'.spare) u k)

    freed-then : (c : Call) → Freed a (then M S a (entry flex y c)).free (then M S a (entry flex y c)).spare
    unfolding entry
    freed-then (setting n i v) = freed-like (setting n i v) a (likewise-set M S a n i v _ _) same
    freed-then (extending n c) = freed-like (extending n c) a (likewise-extend M S a n c _ _) same
    freed-then (asking n b) = go (dec_lt n 8)
      where
        by : (φ : Fate) → Changes a n (asks a n b) φ → Freed a (ledger_by a φ).free (ledger_by a φ).spare
        by (denied e) ch = same
        by (granted v a' ps) ch = freed a a' n (asks a n b) ch

        go : Dec (n < 8) → Freed a (then M S a (entry flex y (asking n b))).free (then M S a (entry flex y (asking n b))).spare
        go (yes h) =
            freed-like (asking n b) (ledger_by a (called M S a n (asks a n b))) (likewise-asked M S y a n b (asked M S z y a g n b h))
            (by (called M S a n (asks a n b)) (changes M S a n (asks a n b)))
        go (no h) =
            let q : answers flex y (asking n b) ≢ 0 = λ e. omega (arith, e, beyond M S z y a g n b (omega arith)) in
            freed-like (asking n b) a (likewise-refused M S a n b _ _ q) same

    pub free_stays : (c : Call) → raw (scene_of M S y a c) ≡ false → (k : ℕ) → member k a.free ≡ true → member k (then M S a (entry flex y c)).free ≡ true
        → part (next flex y c).img (256 * k + 2) 254 ≡ part y.img (256 * k + 2) 254
    free_stays c p k h h' =
        let a' = then M S a (entry flex y c) in
        let g' = (step M S z y a g c).fine p in
        let t = in-member k a.free h in
        let t' = in-member k a'.free h' in
        sym (ap (lookup k a'.free) g'.agrees.spare ∙ lookup-piece (next flex y c).img a'.free k t')
        ∙ freed-same a (ap length g.agrees.spare ∙ length-pieces 2 254 y.img a.free)
        (λ j. omega (arith, all-le M S z y.img y.tab a g.agrees j)) a'.free a'.spare (freed-then c) k t t'
        ∙ ap (lookup k a.free) g.agrees.spare ∙ lookup-piece y.img a.free k t

    -- ---- 7 and 9 deliver
    module _ (n b : ℕ) (hn : n < 8) where
      form-long : length (fcb a n) ≡ 320
      form-long = ap length (sym (g.formed.is n hn)) ∙ length_part y.tab (320 * n) 320

      -- the bytes that the last put but byte 1's has
      delivered : (ps : List Put) (i c : ℕ) (vs : List ℕ) → puts_by (ended (called M S a n (asks a n b))) ≡ ps ++ put i vs ∷ put 1 (one 0) ∷ [] → 2 ≤ i → i + c ≤ 320
          → length vs ≡ c → part (next flex y (asking n b)).tab (320 * n + i) c ≡ vs
      delivered ps i c vs e low high l =
          sym (part-part (next flex y (asking n b)).tab (320 * n) 320 i c high)
          ∙ ap (λ (m : List ℕ). part m i c) (block-after M S z y a g n b hn ∙ ap (puts (fcb a n) 0) e ∙ puts-append ps (put i vs ∷ put 1 (one 0) ∷ []) (fcb a n) 0)
          ∙ part-is (puts (puts (fcb a n) 0 ps) 0 (put i vs ∷ put 1 (one 0) ∷ [])) i c vs l
          (λ j h. puts-at (put i vs ∷ put 1 (one 0) ∷ []) (puts (fcb a n) 0 ps) 0 0 j (i + j) (omega arith) (omega arith) (omega arith)
          (omega (arith, length-puts ps (fcb a n) 0, form-long)) (omega (arith, length-one 0)))

    fits-seven : fits 7 16 ≡ true
    unfolding fits within
    fits-seven = refl

    pub shows : (n b p : ℕ) → Asks a n 7 → block a n ≡ listing p → p < length a.slots
        → (answers flex y (asking n b) ≡ 0) × (part (next flex y (asking n b)).tab (320 * n + 4) 24 ≡ entry_of (file a p))
    unfolding performed served within
    shows n b p k e h =
        let φ : called M S a n (asks a n b) ≡ shown_next M S a n (asks a n b) (listing p) =
        called_of M S a n (asks a n b) 7 k.function refl k.drive (ap (λ (v : Block). fits 7 (activity v)) e ∙ fits-seven) ∙ (rw (k.function, e) refl) in
        let ψ : called M S a n (asks a n b) ≡ granted 0 (set_block a n (listing (suc p))) (put 47 (place_of S (file a p).at) ∷ put 4 (entry_of (file a p)) ∷ []) =
        φ ∙ (rw (lt-ltb p (length a.slots) h) refl) in
        let hs : p < length (slots_of a.dir) = omega (arith, h, g.agrees.ns) in (
          (asked M S z y a g n b k.block).ans ∙ ap reply ψ,
          delivered n b k.block (put 47 (place_of S (file a p).at) ∷ []) 4 24 (entry_of (file a p)) (ap (λ (w : Fate). puts_by (ended w)) ψ) (omega arith) (omega arith)
              (ap length (sym (entry-is M S z y.img y.tab a g.agrees p hs)) ∙ length_part y.img (get_or (slots_of a.dir) p 0) 24),
        )

    fits-nine : (act : ℕ) → idle act ≡ true → fits 9 act ≡ true
    unfolding fits within
    fits-nine act h = h

    pub fetches : (n b : ℕ) → Asks a n 9 → Idle a n → is_sector M S (asks a n b).position ≡ true
        → (answers flex y (asking n b) ≡ 0)
        × (part (next flex y (asking n b)).tab (320 * n + 64) 256 ≡ part y.img (256 * index S (asks a n b).position) 256)
    unfolding performed served within fetched
    fetches n b k e h =
        let v = part (image_of S a) (256 * index S (asks a n b).position) 256 in
        let ψ : called M S a n (asks a n b) ≡ granted 0 a (put 64 v ∷ []) =
        called_of M S a n (asks a n b) 9 k.function refl k.drive (fits-nine (activity (block a n)) e) ∙ (rw (k.function, h) refl) in (
          (asked M S z y a g n b k.block).ans ∙ ap reply ψ,
          delivered n b k.block [] 64 256 v (ap (λ (w : Fate). puts_by (ended w)) ψ) (omega arith) (omega arith) (length_part (image_of S a) (256 * index S (asks a n b).position) 256)
              ∙ ap (λ (m : List ℕ). part m (256 * index S (asks a n b).position) 256) (sym (image-is M S z y.img y.tab a g.agrees)),
        )

-- ---- bytes of track 0 that nobody names

pub not_within : (lo hi p : ℕ) → within lo hi p ≡ false → lo ≤ p → p ≤ hi → ⊥
unfolding within
not_within lo hi p h u v = absurd-bool (rw (le-leb lo p u, le-leb p hi v) refl) h

not-in-slot : (os : List ℕ) (p : ℕ) → in_slot p os ≡ false → (s : ℕ) → s < length os → get_or os s 0 ≤ p → p < get_or os s 0 + 24 → ⊥
unfolding in_slot
not-in-slot [] p h s b u v = absurd (omega arith)
not-in-slot (o ∷ os) p h zero b u v = not_within o (o + 23) p (neither (within o (o + 23) p) (in_slot p os) h).0 u (omega arith)
not-in-slot (o ∷ os) p h (suc s) b u v = not-in-slot os p (neither (within o (o + 23) p) (in_slot p os) h).1 s (omega arith) u v

-- of two lists of which one begins with the other
pub slot-stood : (S : ℕ) (a a' : Ledger) → Onward S a a' → (s : ℕ) → s < length (slots_of a.dir)
    → (s < length (slots_of a'.dir)) × (get_or (slots_of a'.dir) s 0 ≡ get_or (slots_of a.dir) s 0)
slot-stood S a a' w s h =
    let e : slots_of a'.dir ≡ slots_of a.dir ++ slots_of w.ks = ap slots_of w.dir ∙ slots-append a.dir w.ks in (
      omega (arith, h, ap length e, length-append (slots_of a.dir) (slots_of w.ks)),
      ap (λ (l : List ℕ). get_or l s 0) e ∙ get_or-append (slots_of a.dir) (slots_of w.ks) 0 s h,
    )

-- bytes of track 0, and of the directory, that nobody names
module _ (M S : ℕ) (z : Shape M S) (img tab img' tab' : List ℕ) (a a' : Ledger) (r : Agrees M S img tab a) (r' : Agrees M S img' tab' a')
    (w : Onward S a a') (base : a.base ≡ img) (p : ℕ) (outside : within 541 546 p ≡ false) (unslotted : in_slot p (slots_of a.dir) ≡ false)
    (unlinked : in_link (last_of a.dir 4) p ≡ false) where
  abbrev k : ℕ
  k = p / 256

  sector-old : (c : ℕ) → c < length a.dir → get_or a'.dir c 0 ≡ get_or a.dir c 0
  sector-old c h = ap (λ (l : List ℕ). get_or l c 0) w.dir ∙ get_or-append a.dir w.ks 0 c h

  -- a byte of the sector number c of the start's directory
  module _ (c : ℕ) (h : c < length a.dir) (e : get_or a.dir c 0 ≡ k) where
    h' : c < length a'.dir
    h' = omega (arith, h, ap length w.dir, length-append a.dir w.ks)

    e' : get_or a'.dir c 0 ≡ k
    e' = sector-old c h ∙ e

    low : 4 ≤ k
    low = r.listing.low k (subst (λ (x : ℕ). 1 ≤ tally x a.dir) e (tally-get_or a.dir c h))

    before-slots : 16 ≤ p % 256 → ⊥
    before-slots u =
        let i = (p % 256 - 16) / 24 in
        let o = slot_at a.dir c i h (omega arith) in
        not-in-slot (slots_of a.dir) p unslotted (10 * c + i) (omega (arith, length-slots a.dir, h)) (omega (arith, o, e)) (omega (arith, o, e))

    -- bytes 2-15
    head-part : part img' (256 * k + 2) 14 ≡ part img (256 * k + 2) 14
    head-part =
        let l : c < length a.heads = omega (arith, h, ap length r.heads, length-pieces 2 14 img a.dir) in
        sym (ap (λ (x : List (List ℕ)). get_or x c []) r'.heads ∙ pieces-at 2 14 img' a'.dir c h' ∙ ap (λ (x : ℕ). part img' (256 * x + 2) 14) e')
        ∙ ap (λ (x : List (List ℕ)). get_or x c []) w.heads ∙ get_or-append a.heads w.vs [] c l
        ∙ ap (λ (x : List (List ℕ)). get_or x c []) r.heads ∙ pieces-at 2 14 img a.dir c h ∙ ap (λ (x : ℕ). part img (256 * x + 2) 14) e

    head_byte : 2 ≤ p % 256 → p % 256 < 16 → get_or img' p 0 ≡ get_or img p 0
    head_byte u v =
        let i = p % 256 - 2 in
        let q : 256 * k + 2 + i ≡ p = omega arith in
        subst (λ (x : ℕ). get_or img' x 0 ≡ get_or img x 0) q
        (sym (part_at img' (256 * k + 2) 14 i (omega arith)) ∙ ap (λ (l : List ℕ). get_or l i 0) head-part ∙ part_at img (256 * k + 2) 14 i (omega arith))

    -- bytes 0-1: it is not the last one, so the next is the same
    not_last : p % 256 < 2 → suc c < length a.dir
    not_last u = go (dec_lt (suc c) (length a.dir))
      where
        go : Dec (suc c < length a.dir) → suc c < length a.dir
        go (yes x) = x
        go (no x) =
            let q : last_of a.dir 4 ≡ k = last-get_or a.dir 4 c (omega (arith, h)) ∙ e in
            absurd (not_within (256 * last_of a.dir 4) (256 * last_of a.dir 4 + 1) p unlinked (omega (arith, q)) (omega (arith, q)))

    link-part : p % 256 < 2 → part img' (256 * k) 2 ≡ part img (256 * k) 2
    link-part u =
        link-is S img' r'.small k (get_or a.dir (suc c) 0) low
        (ap (λ (x : ℕ). word_at img' (256 * x)) (sym e') ∙ seg-at S img' a'.dir c h' r'.dir ∙ ap (adr S) (sector-old (suc c) (not_last u)))
        ∙ sym (link-is S img r.small k (get_or a.dir (suc c) 0) low (ap (λ (x : ℕ). word_at img (256 * x)) (sym e) ∙ seg-at S img a.dir c h r.dir))

    link-byte : p % 256 < 2 → get_or img' p 0 ≡ get_or img p 0
    link-byte u =
        let i = p % 256 in
        let q : 256 * k + i ≡ p = omega arith in
        subst (λ (x : ℕ). get_or img' x 0 ≡ get_or img x 0) q
        (sym (part_at img' (256 * k) 2 i u) ∙ ap (λ (l : List ℕ). get_or l i 0) (link-part u) ∙ part_at img (256 * k) 2 i u)

    listed-byte : get_or img' p 0 ≡ get_or img p 0
    listed-byte = go (dec_lt (p % 256) 2) (dec_lt (p % 256) 16)
      where
        go : Dec (p % 256 < 2) → Dec (p % 256 < 16) → get_or img' p 0 ≡ get_or img p 0
        go (yes u) v = link-byte u
        go (no u) (yes v) = head_byte (omega arith) v
        go (no u) (no v) = absurd (before-slots (omega arith))

  pub stays : pick (ltb p (256 * S)) true (member k a.dir) ≡ true → get_or img' p 0 ≡ get_or img p 0
  stays at = go (tally k a.dir) refl
    where
      go : (n : ℕ) → tally k a.dir ≡ n → get_or img' p 0 ≡ get_or img p 0
      go (suc n) e = let q = seat a.dir k (omega (arith, e)) in listed-byte q.0 q.1 q.2
      go zero e =
          either (ltb p (256 * S)) (member k a.dir) at
          (λ u. let l = ltb-true p (256 * S) u in r'.aside p l (λ x y. not_within 541 546 p outside x (omega arith)) (none l) ∙ ap (λ (m : List ℕ). get_or m p 0) (w.base ∙ base))
          (λ u. absurd (omega (arith, e, in-member k a.dir u)))
        where
          none : p < 256 * S → tally k a'.dir ≡ 0
          none l = by (tally k w.ks) refl
            where
              by : (m : ℕ) → tally k w.ks ≡ m → tally k a'.dir ≡ 0
              by zero f = omega (arith, e, f, ap (tally k) w.dir, tally-append k a.dir w.ks)
              by (suc m) f = absurd (omega (arith, w.behind k (omega (arith, f))))

-- ---- a file that stands in two images, in the same slot, under its old name or a new one: the other bytes of its slot, its sectors and their 256 bytes
-- are the same

module _ (M S : ℕ) (z : Shape M S) (img tab img' tab' : List ℕ) (a a' : Ledger) (r : Agrees M S img tab a) (r' : Agrees M S img' tab' a')
    (s : ℕ) (hs : s < length (slots_of a.dir)) (hs' : s < length (slots_of a'.dir)) (stood : get_or (slots_of a'.dir) s 0 ≡ get_or (slots_of a.dir) s 0)
    (nm : List ℕ) (same_file : file a' s ≡ with_name (file a s) nm) (alive : live (file a s).name 0 ≡ true) (alive-new : live nm 0 ≡ true) where
  abbrev o : ℕ
  o = get_or (slots_of a.dir) s 0

  alive' : live (file a' s).name 0 ≡ true
  alive' = ap (λ (f : File). live f.name 0) same_file ∙ alive-new

  pub spared-name : part img' o 11 ≡ nm
  spared-name = ap (λ (x : ℕ). part img' x 11) (sym stood) ∙ (r'.holds s hs').name ∙ ap (λ (f : File). f.name) same_file

  pub spared-rest : part img' (o + 11) 13 ≡ part img (o + 11) 13
  spared-rest =
      ap (λ (x : ℕ). part img' (x + 11) 13) (sym stood) ∙ rest-is M S z img' tab' a' r' s hs'
      ∙ ap (λ (f : File). f.mode ++ (f.ends ++ (f.map ++ f.date))) same_file ∙ sym (rest-is M S z img tab a r s hs)

  pub spared-entry : nm ≡ (file a s).name → part img' o 24 ≡ part img o 24
  spared-entry e =
      sym (part_join img' 11 13 o (o + 11) refl) ∙ ap₂ (λ (x y : List ℕ). x ++ y) (spared-name ∙ e ∙ sym (r.holds s hs).name) spared-rest
      ∙ part_join img 11 13 o (o + 11) refl

  chain-is : chain_at S img (o + 13) ≡ (file a s).secs
  chain-is = (file-back M S z img tab a r s hs alive).0

  pub spared-chain : chain_at S img' (o + 13) ≡ chain_at S img (o + 13)
  spared-chain = ap (λ (x : ℕ). chain_at S img' (x + 13)) (sym stood) ∙ (file-back M S z img' tab' a' r' s hs' alive').0 ∙ ap (λ (f : File). f.secs) same_file ∙ sym chain-is

  -- sector j, in both
  sector-same : (j : ℕ) → j < length (file a s).secs → part img' (256 * get_or (file a s).secs j 0) 256 ≡ part img (256 * get_or (file a s).secs j 0) 256
  sector-same j h =
      ap (λ (f : File). part img' (256 * get_or f.secs j 0) 256) (sym same_file)
      ∙ sector-is M S z img' tab' a' r' s hs' alive' j (omega (arith, h, ap (λ (f : File). length f.secs) same_file))
      ∙ ap (λ (f : File). two (adr S (get_or f.secs (suc j) 0)) ++ (get_or f.recs j [] ++ get_or f.body j [])) same_file
      ∙ sym (sector-is M S z img tab a r s hs alive j h)

  pub spared-sectors : pieces 0 256 img' (chain_at S img (o + 13)) ≡ pieces 0 256 img (chain_at S img (o + 13))
  spared-sectors =
      subst (λ (l : List ℕ). pieces 0 256 img' l ≡ pieces 0 256 img l) (sym chain-is)
      (ext_get_or [] (pieces 0 256 img' (file a s).secs) (pieces 0 256 img (file a s).secs) (length-pieces 0 256 img' (file a s).secs ∙ sym (length-pieces 0 256 img (file a s).secs))
      (λ j h.
      let b : j < length (file a s).secs = omega (arith, length-pieces 0 256 img' (file a s).secs) in
      pieces-at 0 256 img' (file a s).secs j b ∙ ap (λ (p : ℕ). part img' p 256) (omega arith) ∙ sector-same j b ∙ ap (λ (p : ℕ). part img p 256) (omega arith)
      ∙ sym (pieces-at 0 256 img (file a s).secs j b)))
