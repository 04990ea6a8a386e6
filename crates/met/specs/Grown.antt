-- The directory gets the first free sector, for a file's first slot or for none yet: the image afterwards, whatever the 24 bytes of the first new slot
-- are that hold a file without sectors. The other nine slots were never used.
use Rattle.std.specs.Prelude.{◌≡◌, refl, ◌≢◌, List, [], ◌∷◌, ◌++◌, ℕ, zero, suc, ◌+◌, ◌-◌, ◌*◌, ◌/◌, ◌≤◌, ◌<◌, length, get_or, drop}
use Rattle.std.proofs.Common.{sym, ap, ap₂, ◌∙◌, subst, arith, length-append, get_or-append-add}
use Rattle.std.proofs.Math.Decide.{ℕ_discrete, dec_lt}
use Rattle.std.proofs.Math.ListN.{get_or-append}
use Rattle.rules.specs.Image.{adr}
use Rattle.rules.specs.Bytes.{word_at, two, six, zeros, flat}
use Rattle.rules.specs.Stores.{Store, store, stored}
use Rattle.rules.specs.Directory.{first_slot_of, slots_at, slots_of, last_of, first}
use Rattle.laws.specs.Bytes.{word-put, part-is, length-zeros, zeros-at, length_two}
use Rattle.laws.specs.Small.{small-two, small-six}
use Rattle.laws.specs.Stores.{stored-off, stored_at, length-stored}
use Rattle.laws.specs.Addresses.{Shape}
use Rattle.laws.specs.Slots.{length-slots}
use Rattle.chains.specs.Tally.{tally, tally-head, tally-append, flat_append, apart}
use Rattle.chains.specs.Once.{once-eq}
use Rattle.chains.specs.Snoc.{length-snoc, snoc-last}
use Rattle.chains.specs.Addresses.{adr-zero}
use Rattle.chains.specs.Chain.{Seg, seg-hang, tally-last, pieces, pieces-same, pieces-append}
use Rattle.chains.specs.Data.{sector-small}
use Rattle.chains.specs.Walk.{data_of, data-snoc}
use Rattle.chains.specs.Frame.{Address, of_record, of_link}
use Rattle.chains.specs.Directory.{listing-more, slot_at, slots-snoc, spot}
use Rattle.demands.specs.Ledger.{File, no_file, Block, closed, Ledger, secs_of, unused_slot, unused_slots}
use Rattle.met.specs.Relation.{opens, writes, Holds, Keeps, Agrees, holds_same, long}
use Rattle.met.specs.Unused.{length-unused, unused-at, unused-none, unused-holds}
use Rattle.met.specs.Sectors.{secs-data, secs-off, secs-once, fits}
use Rattle.met.specs.Frees.{k-data, k_off, k-in, k-new, fr-data, fr-off, left, free-now, spare-now}

module _ (M S : ℕ) (z : Shape M S) (img tab : List ℕ) (a : Ledger) (r : Agrees M S img tab a) (k : ℕ) (fr : List ℕ) (ef : a.free ≡ k ∷ fr)
    (entry : List ℕ) (l24 : length entry ≡ 24) (new : File) (bare : new.secs ≡ [])
    (made : (m : List ℕ) → ((i x : ℕ) → i < 24 → first_slot_of k + i ≡ x → get_or m x 0 ≡ get_or entry i 0) → Holds S m (first_slot_of k) new) where
  abbrev ks : List ℕ
  ks = a.dir ++ k ∷ []

  abbrev os : List ℕ
  os = slots_of a.dir

  abbrev more : List File
  more = new ∷ unused_slots (first_slot_of k + 24) 9

  -- the ledger, with these blocks and their bytes
  abbrev pub longer : List Block → List (List ℕ) → Ledger
  longer bs fs = record {
    base = a.base;
    free = fr;
    spare = drop 1 a.spare;
    dir = ks;
    heads = a.heads ++ zeros 14 ∷ [];
    slots = a.slots ++ more;
    blocks = bs;
    fcbs = fs;
  }

  klow : S ≤ k
  klow = (k-data M S z img tab a r k fr ef).0

  koff : tally k a.dir ≡ 0
  koff = k_off M S z img tab a r k fr ef

  kin : 256 * k + 256 ≤ length img
  kin = k-in M S z img tab a r k fr ef

  -- the last sector of the directory, which is another
  abbrev last : ℕ
  last = last_of a.dir 4

  last-in : 1 ≤ tally last a.dir
  last-in = tally-last a.dir 4 r.listing.some

  other : (j : ℕ) → 1 ≤ tally j a.dir → j ≢ k
  other j t e = omega (arith, t, koff, ap (λ (x : ℕ). tally x a.dir) e)

  last-low : 4 ≤ last
  last-low = r.listing.low last last-in

  last_fits : 256 * last + 256 ≤ length img
  last_fits = fits M S z img tab a r last (r.listing.high last last-in)

  abbrev pub grow_s : List Store
  grow_s = store 2 29 (left M S z img tab a r k fr ef) ∷ store k 0 (zeros 256) ∷ store last 0 (two (adr S k)) ∷ store k 16 entry ∷ []

  abbrev pub img' : List ℕ
  img' = stored img grow_s

  -- outside of what is stored to
  keep : (p : ℕ) → (541 ≤ p → p < 547 → ⊥) → (256 * k ≤ p → p < 256 * k + 256 → ⊥) → (256 * last ≤ p → p < 256 * last + 2 → ⊥)
      → get_or img' p 0 ≡ get_or img p 0
  unfolding six two
  keep p a b c =
      stored-off grow_s img p
      ((λ u v. a (omega arith) (omega arith)), ((λ u v. b (omega arith) (omega (arith, length-zeros 256))), ((λ u v. c (omega arith) (omega arith)), ((λ u v. b (omega arith) (omega (arith, l24))), tt))))

  -- a data sector that is none of the directory; a sector of the directory, but for the last one's link
  sector : (j i : ℕ) → S ≤ j → tally j a.dir ≡ 0 → j ≢ k → i < 256 → get_or img' (256 * j + i) 0 ≡ get_or img (256 * j + i) 0
  sector j i b t ne d =
      let far : j ≢ last = λ e. omega (arith, t, last-in, ap (λ (x : ℕ). tally x a.dir) e) in
      keep (256 * j + i) (λ u v. omega (arith, z.sectors)) (λ u v. omega (arith, ne)) (λ u v. omega (arith, far))

  listed : (j i : ℕ) → 1 ≤ tally j a.dir → i < 256 → (j ≡ last → 2 ≤ i) → get_or img' (256 * j + i) 0 ≡ get_or img (256 * j + i) 0
  listed j i t b g =
      keep (256 * j + i) (λ u v. omega (arith, r.listing.low j t)) (λ u v. omega (arith, other j t)) (λ u v. let e : j ≡ last = omega arith in omega (arith, g e))

  -- the new sector: zeros, and the entry
  nought : (i x : ℕ) → i < 256 → (16 ≤ i → i < 40 → ⊥) → 256 * k + i ≡ x → get_or img' x 0 ≡ 0
  unfolding six two
  nought i x b g e =
      stored_at grow_s img 1 i x (omega arith) (omega (arith, length-zeros 256)) (omega arith) (omega (arith, kin))
      ((λ u v. other last last-in (omega arith)), ((λ u v. g (omega arith) (omega (arith, l24))), tt)) ∙ zeros-at 256 i

  in_entry : (i x : ℕ) → i < 24 → first_slot_of k + i ≡ x → get_or img' x 0 ≡ get_or entry i 0
  in_entry i x b e = stored_at grow_s img 3 i x (omega arith) (omega (arith, l24)) (omega arith) (omega (arith, kin)) tt

  -- the link to it
  link-byte : (i x : ℕ) → i < 2 → 256 * last + i ≡ x → get_or img' x 0 ≡ get_or (two (adr S k)) i 0
  link-byte i x b e =
      stored_at grow_s img 2 i x (omega arith) (omega (arith, length_two (adr S k))) (omega arith) (omega (arith, last_fits))
      ((λ u v. other last last-in (omega (arith, l24))), tt)

  link-now : word_at img' (256 * last) ≡ adr S k
  unfolding two
  link-now =
      word-put img' (256 * last) (adr S k) (sector-small M S z k (k-data M S z img tab a r k fr ef))
      (link-byte 0 (256 * last) (omega arith) (omega arith)) (link-byte 1 (256 * last + 1) (omega arith) refl)

  record-now : (i p : ℕ) → i < 6 → 541 + i ≡ p → get_or img' p 0 ≡ get_or (left M S z img tab a r k fr ef) i 0
  unfolding six two
  record-now i p b e =
      stored_at grow_s img 0 i p (omega arith) (omega arith) (omega arith) (omega (arith, long M S z img tab a r))
      ((λ u v. omega (arith, klow, z.sectors)), ((λ u v. omega (arith, last-low)), ((λ u v. omega (arith, klow, z.sectors)), tt)))

  fr-kept : (j i : ℕ) → 1 ≤ tally j fr → i < 256 → get_or img' (256 * j + i) 0 ≡ get_or img (256 * j + i) 0
  fr-kept j i t b = sector j i (fr-data M S z img tab a r k fr ef j t).0 (fr-off M S z img tab a r k fr ef j t) (k-new M S z img tab a r k fr ef j t) b

  -- the directory
  last-same : (ds : List ℕ) (x y : ℕ) → 1 ≤ length ds → last_of ds x ≡ last_of ds y
  last-same [] x y h = absurd (omega arith)
  last-same (j ∷ ds) x y h = refl

  dir-now : Seg S img' ks 0
  dir-now =
      let e : last_of a.dir 0 ≡ last = last-same a.dir 0 4 r.listing.some in
      seg-hang S img img' a.dir (k ∷ []) r.listing.once
      (λ j i t ne c. listed j i t (omega arith) (λ q. absurd (ne (q ∙ sym e))))
      (λ h. ap (λ (x : ℕ). word_at img' (256 * x)) e ∙ link-now) r.dir
      (word-put img' (256 * k) 0 (omega arith) (nought 0 (256 * k) (omega arith) (λ u v. omega arith) (omega arith)) (nought 1 (256 * k + 1) (omega arith) (λ u v. omega arith) refl) ∙ sym (adr-zero S), tt)

  heads-now : a.heads ++ zeros 14 ∷ [] ≡ pieces 2 14 img' ks
  heads-now =
      sym (pieces-append 2 14 img' a.dir (k ∷ [])
      ∙ ap₂ (λ (x y : List (List ℕ)). x ++ y)
      (pieces-same 2 14 img img' a.dir (λ j i t u v. listed j i t (omega arith) (λ q. u)) ∙ sym r.heads)
      (ap (λ (x : List ℕ). x ∷ []) (part-is img' (256 * k + 2) 14 (zeros 14) (length-zeros 14)
      (λ i b. nought (2 + i) (256 * k + 2 + i) (omega arith) (λ u v. omega arith) (omega arith) ∙ sym (zeros-at 14 i)))))

  -- its slots: the old ones first
  pub all_slots : length (slots_of ks) ≡ length os + 10
  all_slots = omega (arith, length-slots ks, length-slots a.dir, length-snoc a.dir k)

  all-files : length (a.slots ++ more) ≡ length os + 10
  all-files = omega (arith, length-append a.slots more, length-unused (first_slot_of k + 24) 9, r.ns)

  old-slot : (s : ℕ) → s < length os → get_or (slots_of ks) s 0 ≡ get_or os s 0
  old-slot s h = ap (λ (l : List ℕ). get_or l s 0) (slots-snoc a.dir k) ∙ get_or-append os (slots_at (first_slot_of k) 10) 0 s h

  new-slot : (i : ℕ) → i < 10 → get_or (slots_of ks) (length os + i) 0 ≡ first_slot_of k + 24 * i
  new-slot i h =
      ap (λ (x : ℕ). get_or (slots_of ks) x 0) (omega (arith, length-slots a.dir))
      ∙ slot_at ks (length a.dir) i (omega (arith, length-snoc a.dir k)) h
      ∙ omega (arith, snoc-last a.dir k)

  old-file : (s : ℕ) → s < length os → get_or (a.slots ++ more) s no_file ≡ get_or a.slots s no_file
  old-file s h = get_or-append a.slots more no_file s (omega (arith, r.ns))

  new-file : (i : ℕ) → get_or (a.slots ++ more) (length os + i) no_file ≡ get_or more i no_file
  new-file i = ap (λ (x : ℕ). get_or (a.slots ++ more) (x + i) no_file) (sym r.ns) ∙ get_or-append-add a.slots more i no_file

  -- the first of the new ones
  pub first_slot : get_or (slots_of ks) (length a.slots) 0 ≡ first_slot_of k
  first_slot =
      ap (λ (x : ℕ). get_or (slots_of ks) x 0) (let q : length a.slots ≡ length os + 0 = omega (arith, r.ns) in q) ∙ new-slot 0 (omega arith) ∙ omega arith

  pub first-file : get_or (a.slots ++ more) (length a.slots) no_file ≡ new
  first-file = ap (λ (x : ℕ). get_or (a.slots ++ more) x no_file) (let q : length a.slots ≡ length os + 0 = omega (arith, r.ns) in q) ∙ new-file 0

  holds-old : (s : ℕ) → s < length os → Holds S img' (get_or os s 0) (get_or a.slots s no_file)
  holds-old s h =
      let w = spot M S a.dir r.listing s h in
      holds_same S img img' (get_or os s 0) (get_or a.slots s no_file)
      (λ i c. let e : 256 * w.k + (16 + 24 * w.i + i) ≡ get_or os s 0 + i = omega (arith, w.place) in
      subst (λ (x : ℕ). get_or img' x 0 ≡ get_or img x 0) e (listed w.k (16 + 24 * w.i + i) w.inside (omega (arith, w.row)) (λ q. omega arith)))
      (λ j i t c. sector j i (secs-data M S z img tab a r s h j t).0 (secs-off M S z img tab a r s h j t)
      (λ q. apart (get_or a.slots s no_file).secs a.free j k (λ x. omega (arith, secs-once M S z img tab a r s h x)) t (omega (arith, ap (tally k) ef, tally-head k fr)) q) c)
      (r.holds s h)

  holds-new : (i : ℕ) → i < 10 → Holds S img' (first_slot_of k + 24 * i) (get_or more i no_file)
  holds-new zero h =
      subst (λ (x : ℕ). Holds S img' x new) (let e : first_slot_of k ≡ first_slot_of k + 24 * 0 = omega arith in e) (made img' in_entry)
  holds-new (suc i) h =
      let p = first_slot_of k + 24 * suc i in
      subst (λ (f : File). Holds S img' p f) (sym (unused-at (first_slot_of k + 24) 9 i (omega arith) ∙ ap unused_slot (let e : first_slot_of k + 24 + 24 * i ≡ p = omega arith in e)))
      (unused-holds S img' p (λ j x b e. nought (40 + 24 * i + j) x (omega arith) (λ u v. omega arith) (omega arith)))

  holds-now : (s : ℕ) → s < length (slots_of ks) → Holds S img' (get_or (slots_of ks) s 0) (get_or (a.slots ++ more) s no_file)
  holds-now s h = go (dec_lt s (length os))
    where
      go : Dec (s < length os) → Holds S img' (get_or (slots_of ks) s 0) (get_or (a.slots ++ more) s no_file)
      go (yes u) = rw (old-slot s u, old-file s u) (holds-old s u)
      go (no u) =
          let i = s - length os in
          let b : i < 10 = omega (arith, all_slots) in
          let e : s ≡ length os + i = omega arith in
          subst (λ (x : ℕ). Holds S img' (get_or (slots_of ks) x 0) (get_or (a.slots ++ more) x no_file)) (sym e)
          (rw (new-slot i b, new-file i) (holds-new i b))

  -- the sectors
  tally-now : (x : ℕ) → tally x (fr ++ (data_of S ks ++ flat secs_of (a.slots ++ more))) ≡ tally x (a.free ++ (data_of S a.dir ++ flat secs_of a.slots))
  tally-now x =
      omega (
        arith,
        tally-append x fr (data_of S ks ++ flat secs_of (a.slots ++ more)),
        tally-append x (data_of S ks) (flat secs_of (a.slots ++ more)),
        ap (tally x) (data-snoc S a.dir k klow),
        tally-append x (data_of S a.dir) (k ∷ []),
        ap (tally x) (flat_append secs_of a.slots more),
        tally-append x (flat secs_of a.slots) (flat secs_of more),
        tally-append x new.secs (flat secs_of (unused_slots (first_slot_of k + 24) 9)),
        ap (tally x) bare,
        unused-none x (first_slot_of k + 24) 9,
        tally-append x a.free (data_of S a.dir ++ flat secs_of a.slots),
        tally-append x (data_of S a.dir) (flat secs_of a.slots),
        ap (tally x) ef,
      )

  small-now : (p : ℕ) → Address p → get_or img' p 0 < 256
  small-now p (of_record u v) = omega (arith, record-now (p - 541) p (omega arith) (omega arith), (small-six (adr S (first fr 0)) (adr S (last_of fr 0)) (length fr)).at (p - 541))
  small-now p (of_link j i u v q) = go (ℕ_discrete j k) (ℕ_discrete j last)
    where
      go : Dec (j ≡ k) → Dec (j ≡ last) → get_or img' p 0 < 256
      go (yes e) t = omega (arith, nought i p (omega arith) (λ x y. omega arith) (omega arith))
      go (no e) (yes t) = omega (arith, link-byte i p v (omega arith), (small-two (adr S k)).at i)
      go (no e) (no t) =
          omega (arith, keep p (λ x y. omega arith) (λ x y. omega (arith, e)) (λ x y. omega (arith, t)), r.small p (of_link j i u v q))

  -- THE STEP: with whatever table and blocks fit the longer directory
  pub grown-agrees : (table : List ℕ) (bs : List Block) (fs : List (List ℕ)) → length table ≡ 2560 → length bs ≡ 8
      → ((n : ℕ) → n < 8 → Keeps S (slots_of ks) table n (a.slots ++ more) (get_or bs n closed))
      → ((n n' : ℕ) → n ≢ n' → n < 8 → n' < 8 → 1 ≤ writes (get_or bs n closed) → writes (get_or bs n closed) ≢ opens (get_or bs n' closed))
      → Agrees M S img' table (longer bs fs)
  grown-agrees table bs fs tl bl keeps alone =
      record {
        shaped = record {
          last = keep 550 (λ u v. omega arith) (λ u v. omega (arith, klow, z.sectors)) (λ u v. omega (arith, last-low)) ∙ r.shaped.last;
          per = keep 551 (λ u v. omega arith) (λ u v. omega (arith, klow, z.sectors)) (λ u v. omega (arith, last-low)) ∙ r.shaped.per;
          size = length-stored grow_s img ∙ r.shaped.size;
        };
        tlen = tl;
        listing = listing-more M S a.dir r.listing k (omega (arith, klow, z.sectors)) (k-data M S z img tab a r k fr ef).1 koff;
        dir = dir-now;
        heads = heads-now;
        ns = all-files ∙ sym all_slots;
        nb = bl;
        free = free-now M S z img tab a r k fr ef img' record-now fr-kept;
        holds = holds-now;
        keeps = keeps;
        alone = alone;
        once = once-eq S ((M + 1) * S) _ _ tally-now r.once;
        spare = spare-now M S z img tab a r k fr ef img' record-now fr-kept;
        small = small-now;
        len = length-stored grow_s img ∙ r.len;
        aside = λ p low rec off.
            let t : tally (p / 256) a.dir ≡ 0 = omega (arith, off, tally-append (p / 256) a.dir (k ∷ [])) in
            let far : p / 256 ≢ last = λ e. omega (arith, t, last-in, ap (λ (x : ℕ). tally x a.dir) e) in
            keep p rec (λ u v. omega (arith, klow)) (λ u v. omega (arith, far)) ∙ r.aside p low rec t;
      }
