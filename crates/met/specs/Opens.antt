-- Open for read and open for write.
use Rattle.std.specs.Prelude.{◌≡◌, ◌≢◌, true, drop, eqb, leb}
use Rattle.std.proofs.Math.Path.{refl, ap, ap₂}
use Rattle.std.proofs.Common.{sym, ◌∙◌, subst, arith, length-append, get_or-set_same, get_or-append-add, ne_eqb}
use Rattle.std.proofs.Math.Bool.{false}
use mathlib.Core.List.{List, [], ◌∷◌, ◌++◌}
use Prim.Native.Nat.{ℕ, zero, suc, ◌+◌, ◌-◌, ◌*◌, ◌/◌, ◌%◌, ◌≤◌, ◌<◌}
use Rattle.std.proofs.Math.ListN.{length, get_or, get_or-append}
use Rattle.std.proofs.lemmas.Bool.{lt-leb}
use Rattle.rules.specs.Image.{adr}
use Rattle.laws.specs.Tests.{both, either, within-is}
use Rattle.rules.specs.Bytes.{pick, within, word_at, part, one, two, zeros}
use Rattle.rules.specs.Stores.{store, stored, Put, put, puts}
use Rattle.rules.specs.Names.{is_letter, is_word, legal}
use Rattle.rules.specs.Directory.{slots_of, live, never_used, named, place_of, deleted, attributes_at}
use Rattle.rules.specs.Outcome.{refuse, done, on_slot}
use Rattle.rules.specs.Block.{in_use}
use Rattle.rules.specs.Files.{read_protected, opened, open_read}
use Rattle.laws.specs.Bytes.{word-put, word_same, part_at, part-is, length_part, length-zeros, zeros-at}
use Rattle.chains.specs.Tally.{tally}
use Rattle.laws.specs.Addresses.{Shape}
use Rattle.chains.specs.Addresses.{adr-zero, absurd-bool}
use Rattle.chains.specs.Chain.{first-get_or}
use Rattle.laws.specs.Each.{Each}
use Rattle.laws.specs.Stores.{Within, Piece, begins, bytes_of, none, in_block, Off, puts-off, puts-at}
use Rattle.demands.specs.Ledger.{File, no_file, closed, reading, writing, Ledger, denied, granted, Sought, nowhere, slot, on_sought, file_named, busy, attributes, set_block, set_file, new_file, entry_of, opened_to_read, request}
use Rattle.met.specs.Relation.{tb, t2, tp, opens, Holds, Reading, Writing, Agrees, Turn, step, step_block}
use Rattle.met.specs.Quiet.{turned, writes-opens}
use Rattle.met.specs.Meets.{Meets, meets-unless, meets-when}
use Rattle.met.specs.Searches.{legal-part, find-is, in-use-is, attributes-is, looked_up, seek_found, named-hit, dead-shut, not-busy, not_written}
use Rattle.met.specs.Marks.{slot_at, slot-frame, slot-free, slot-spare}
use Rattle.met.specs.Picture.{entry-is}

-- ---- a legal name is live
letter-live : (x : ℕ) → is_letter x ≡ true → pick (eqb x 0) false (pick (leb 128 x) false true) ≡ true
unfolding is_letter
letter-live x h =
    either (within 65 90 x) (within 97 122 x) h (λ e. now 65 90 (omega arith) (omega arith) e) (λ e. now 97 122 (omega arith) (omega arith) e)
  where
    now : (lo hi : ℕ) → 1 ≤ lo → hi < 128 → within lo hi x ≡ true → pick (eqb x 0) false (pick (leb 128 x) false true) ≡ true
    now lo hi a b e = let w = within-is lo hi x e in rw (ne_eqb x 0 (omega arith), lt-leb 128 x (omega arith)) refl

pub legal-live : (m : List ℕ) → legal m 0 ≡ true → live m 0 ≡ true
unfolding legal is_word part live never_used deleted
legal-live m h = letter-live (get_or m 0 0) (both (is_letter (get_or m 0 0)) _ (both (is_word (part m 0 8)) _ h).0).0

-- ---- the table of an open: the entry es of the slot at o goes to 4-27
module _ (M S : ℕ) (z : Shape M S) (img tab : List ℕ) (a : Ledger) (r : Agrees M S img tab a) (n : ℕ) (hn : n < 8) (act o : ℕ) (es : List ℕ) (le : length es ≡ 24) where
  abbrev pub ps : List Put
  ps = put 4 es ∷ put 0 (one 0) ∷ put 30 (zeros 6) ∷ put 2 (one act) ∷ put 47 (place_of S o) ∷ put 59 (one 255) ∷ []

  abbrev pub tab' : List ℕ
  tab' = puts tab (320 * n) ps

  pub open-within : Each Within ps
  unfolding one two place_of
  open-within = omega (arith, le, length-zeros 6)

  pub open_turn : Turn tab tab' n
  unfolding one two place_of
  open_turn = turned tab n ps open-within

  abbrev pieces : List Piece
  pieces = in_block (320 * n) ps

  at : (q j i : ℕ) → q < 6 → j < length (bytes_of (get_or pieces q none)) → begins (get_or pieces q none) + j ≡ 320 * n + i → i < 320
      → Each (Off (320 * n + i)) (drop (suc q) pieces) → tb tab' n i ≡ get_or (bytes_of (get_or pieces q none)) j 0
  at q j i g u v t c = puts-at ps tab (320 * n) q j (320 * n + i) (omega arith) u v (omega (arith, r.tlen)) c

  open-entry : (i : ℕ) → 4 ≤ i → i < 28 → tb tab' n i ≡ get_or es (i - 4) 0
  unfolding one two place_of
  open-entry i b c = at 0 (i - 4) i (omega arith) (omega (arith, le)) (omega arith) (omega arith) (omega arith)

  open-word : (i v : ℕ) → 4 ≤ i → i + 1 < 28 → word_at es (i - 4) ≡ v → t2 tab' n i ≡ v
  open-word i v b c e =
      word_same es tab' (i - 4) (320 * n + i) (open-entry i b (omega arith))
      (ap (λ (p : ℕ). get_or tab' p 0) (omega arith) ∙ open-entry (i + 1) (omega arith) c ∙ ap (λ (p : ℕ). get_or es p 0) (omega arith)) ∙ e

  open-act : tb tab' n 2 ≡ act
  unfolding one two place_of
  open-act = at 3 0 2 (omega arith) (omega arith) (omega arith) (omega arith) (omega arith)

  open-zero : (i : ℕ) → 30 ≤ i → i < 36 → tb tab' n i ≡ 0
  unfolding one two place_of
  open-zero i b c = at 2 (i - 30) i (omega arith) (omega (arith, length-zeros 6)) (omega arith) (omega arith) (omega arith) ∙ zeros-at 6 (i - 30)

  open-drive : tb tab' n 3 ≡ tb tab n 3
  unfolding one two place_of
  open-drive = puts-off ps tab (320 * n) (320 * n + 3) (omega (arith, length-zeros 6))

  open-pos : t2 tab' n 30 ≡ 0
  open-pos =
      word-put tab' (320 * n + 30) 0 (omega arith) (open-zero 30 (omega arith) (omega arith)) (ap (λ (p : ℕ). get_or tab' p 0) (omega arith) ∙ open-zero 31 (omega arith) (omega arith))

  open-place : tp tab' n ≡ place_of S o
  unfolding one two place_of
  open-place =
      part-is tab' (320 * n + 47) 3 (place_of S o) refl (λ i b. ap (λ (p : ℕ). get_or tab' p 0) (omega arith) ∙ at 4 i (47 + i) (omega arith) b (omega arith) (omega arith) (omega arith))

-- a word of a part
word-part : (m : List ℕ) (p n i : ℕ) → i + 1 < n → word_at (part m p n) i ≡ word_at m (p + i)
word-part m p n i h =
    word_same m (part m p n) (p + i) i (part_at m p n i (omega arith)) (part_at m p n (i + 1) h ∙ ap (λ (x : ℕ). get_or m x 0) (omega arith))

module _ (M S : ℕ) (z : Shape M S) (img tab : List ℕ) (a : Ledger) (r : Agrees M S img tab a) (n : ℕ) (hn : n < 8) (dr : tb tab n 3 ≡ 0) where
  -- ---- read
  module _ (s : ℕ) (hs : s < length (slots_of a.dir)) (alive : live (get_or a.slots s no_file).name 0 ≡ true) where
    abbrev f : File
    f = get_or a.slots s no_file

    abbrev o : ℕ
    o = get_or (slots_of a.dir) s 0

    abbrev es : List ℕ
    es = part img o 24

    le : length es ≡ 24
    le = length_part img o 24

    open-read : busy false s a.blocks 8 ≡ false
        → Agrees M S img (puts tab (320 * n) (ps M S z img tab a r n hn 1 o es le)) (set_block a n (reading s 0 0))
    open-read free =
        step_block M S z img tab a r (tab' M S z img tab a r n hn 1 o es le) n (reading s 0 0) hn (open_turn M S z img tab a r n hn 1 o es le) now (λ n' h e w. absurd (omega arith))
        (λ n' h e w. not_written s (get_or a.blocks n' closed) (not-busy false s a.blocks 8 n' free h))
      where
        now : Reading S (slots_of a.dir) (tab' M S z img tab a r n hn 1 o es le) n f s 0 0
        now = record {
          act = open-act M S z img tab a r n hn 1 o es le;
          drive = open-drive M S z img tab a r n hn 1 o es le ∙ dr;
          slot = hs;
          alive = alive;
          place = open-place M S z img tab a r n hn 1 o es le;
          start = open-word M S z img tab a r n hn 1 o es le 17 (adr S (get_or f.secs 0 0)) (omega arith) (omega arith)
              (word-part img o 24 13 (omega arith) ∙ ((r.holds s hs).chain alive).start ∙ ap (adr S) (first-get_or f.secs));
          loaded = omega arith;
          before = λ q. open-pos M S z img tab a r n hn 1 o es le;
          after = λ q. absurd (omega arith);
          link = λ q. absurd (omega arith);
          at = open-zero M S z img tab a r n hn 1 o es le 34 (omega arith) (omega arith);
          within = λ q. absurd (omega arith);
          buffer = λ q. absurd (omega arith);
        }

  pub open-read-meets : (b : ℕ) → Meets M S img tab n (open_read img tab M S (320 * n)) (opened_to_read M S a n (request tab (320 * n) b))
  unfolding open_read opened_to_read opened
  open-read-meets b =
      meets-unless M S img tab n (legal tab (320 * n + 4)) (legal (part tab (320 * n + 4) 11) 0) 21 _ _ (legal-part tab (320 * n + 4)) (omega arith)
      (λ h. rw (find-is M S z img tab a r (part tab (320 * n + 4) 11)) (go (file_named (part tab (320 * n + 4) 11) a.slots) refl))
    where
      go : (x : Sought) → file_named (part tab (320 * n + 4) 11) a.slots ≡ x
          → Meets M S img tab n (on_slot (looked_up (slots_of a.dir) x) 5 4 (λ slot. pick (read_protected (attributes_at img slot)) (refuse 17) (pick (in_use false tab (place_of S slot)) (refuse 2) (done 0 [] (opened S 1 slot (part img slot 24))))))
          (on_sought x (denied 4) (λ s. pick (read_protected (attributes a s)) (denied 17) (pick (busy false s a.blocks 8) (denied 2) (granted 0 (set_block a n (reading s 0 0)) (opened S 1 (get_or a.slots s no_file).at (entry_of (get_or a.slots s no_file)))))))
      go nowhere e = (refl, omega arith)
      go (slot s) e =
          let q = seek_found (λ x. named x (part tab (320 * n + 4) 11) 0) a.slots s e in
          let hs : s < length (slots_of a.dir) = omega (arith, q.low, r.ns) in
          meets-when M S img tab n _ (read_protected (attributes a s)) 17 _ _ (ap read_protected (attributes-is M S z img tab a r s hs)) (omega arith)
          (λ h17. meets-when M S img tab n (in_use false tab (place_of S (get_or (slots_of a.dir) s 0))) (busy false s a.blocks 8) 2 _ _ (in-use-is M S z img tab a r false s hs) (omega arith)
          (λ h2. (
            refl,
            ap₂ (opened S 1) (sym (r.holds s hs).at) (entry-is M S z img tab a r s hs),
            open-within M S z img tab a r n hn 1 (get_or (slots_of a.dir) s 0) (part img (get_or (slots_of a.dir) s 0) 24) (length_part img (get_or (slots_of a.dir) s 0) 24),
            λ plain. open-read s hs (named-hit (get_or a.slots s no_file).name (part tab (320 * n + 4) 11) q.hit).alive h2,
          )))

  -- ---- write
  abbrev pub nm : List ℕ
  nm = part tab (320 * n + 4) 11

  abbrev pub date : List ℕ
  date = part tab (320 * n + 25) 3

  abbrev pub ne : List ℕ
  ne = nm ++ (zeros 10 ++ date)

  ln : length nm ≡ 11
  ln = length_part tab (320 * n + 4) 11

  l10 : length (zeros 10 ++ date) ≡ 13
  l10 = length-append (zeros 10) date ∙ omega (arith, length-zeros 10, length_part tab (320 * n + 25) 3)

  pub l24 : length ne ≡ 24
  l24 = length-append nm (zeros 10 ++ date) ∙ omega (arith, ln, l10)

  entry-name : (i : ℕ) → i < 11 → get_or ne i 0 ≡ get_or nm i 0
  entry-name i b = get_or-append nm (zeros 10 ++ date) 0 i (omega (arith, ln))

  entry-late : (i : ℕ) → get_or ne (11 + i) 0 ≡ get_or (zeros 10 ++ date) i 0
  entry-late i = ap (λ (x : ℕ). get_or ne (x + i) 0) (sym ln) ∙ get_or-append-add nm (zeros 10 ++ date) i 0

  entry_zero : (i : ℕ) → i < 10 → get_or ne (11 + i) 0 ≡ 0
  entry_zero i b = entry-late i ∙ get_or-append (zeros 10) date 0 i (omega (arith, length-zeros 10)) ∙ zeros-at 10 i

  entry-date : (i : ℕ) → get_or ne (21 + i) 0 ≡ get_or date i 0
  entry-date i =
      ap (λ (x : ℕ). get_or ne x 0) (omega arith) ∙ entry-late (10 + i)
      ∙ ap (λ (x : ℕ). get_or (zeros 10 ++ date) (x + i) 0) (sym (length-zeros 10)) ∙ get_or-append-add (zeros 10) date i 0

  zero_word : (i : ℕ) → i < 9 → word_at ne (11 + i) ≡ 0
  zero_word i b =
      word-put ne (11 + i) 0 (omega arith) (entry_zero i (omega arith)) (ap (λ (x : ℕ). get_or ne x 0) (omega arith) ∙ entry_zero (i + 1) (omega arith))

  late-date : (i : ℕ) → i < 4 → get_or ne (20 + i) 0 ≡ get_or (zeros 1 ++ date) i 0
  unfolding zeros
  late-date zero b = entry_zero 9 (omega arith)
  late-date (suc i) b = ap (λ (x : ℕ). get_or ne x 0) (omega arith) ∙ entry-date i

  -- an image with the new entry in the slot at p
  module _ (alive : live nm 0 ≡ true) (img' : List ℕ) (p : ℕ) (in_entry : (i x : ℕ) → i < 24 → p + i ≡ x → get_or img' x 0 ≡ get_or ne i 0) where
    zero_in : (i x : ℕ) → i < 9 → p + (11 + i) ≡ x → word_at img' x ≡ 0
    zero_in i x b q =
        word-put img' x 0 (omega arith) (in_entry (11 + i) x (omega arith) q ∙ entry_zero i (omega arith))
        (in_entry (11 + (i + 1)) (x + 1) (omega arith) (omega arith) ∙ entry_zero (i + 1) (omega arith))

    pub holds-made : (at : ℕ) → at ≡ p → Holds S img' p (new_file at nm date)
    holds-made at e =
        record {
          at = e;
          name = part-is img' p 11 nm ln (λ i b. in_entry i (p + i) (omega arith) refl ∙ entry-name i b);
          mode = part-is img' (p + 11) 2 (zeros 2) (length-zeros 2) (λ i b. in_entry (11 + i) (p + 11 + i) (omega arith) (omega arith) ∙ entry_zero i (omega arith) ∙ sym (zeros-at 2 i));
          ends = part-is img' (p + 13) 6 (zeros 6) (length-zeros 6) (λ i b. in_entry (11 + (2 + i)) (p + 13 + i) (omega arith) (omega arith) ∙ entry_zero (2 + i) (omega arith) ∙ sym (zeros-at 6 i));
          map = part-is img' (p + 19) 1 (zeros 1) (length-zeros 1) (λ i b. in_entry (11 + (8 + i)) (p + 19 + i) (omega arith) (omega arith) ∙ entry_zero (8 + i) (omega arith) ∙ sym (zeros-at 1 i));
          date = part-is img' (p + 20) 4 (zeros 1 ++ date) (length-append (zeros 1) date ∙ omega (arith, length-zeros 1, length_part tab (320 * n + 25) 3)) (λ i b. in_entry (20 + i) (p + 20 + i) (omega arith) (omega arith) ∙ late-date i b);
          chain = λ v. record { start = zero_in 2 _ (omega arith) (omega arith) ∙ sym (adr-zero S); end = zero_in 4 _ (omega arith) (omega arith) ∙ sym (adr-zero S); size = zero_in 6 _ (omega arith) (omega arith); seg = tt };
          dead = λ v. absurd-bool alive v;
          recs = refl;
          body = refl;
        }

  -- a block that has just opened the slot s of these, at p
  module _ (alive : live nm 0 ≡ true) (os : List ℕ) (s p : ℕ) (hs : s < length os) (at : get_or os s 0 ≡ p) where
    pub keeps-made : (o : ℕ) → Writing S os (tab' M S z img tab a r n hn 2 p ne l24) n (new_file o nm date) s []
    keeps-made o =
        record {
          act = open-act M S z img tab a r n hn 2 p ne l24;
          drive = open-drive M S z img tab a r n hn 2 p ne l24 ∙ dr;
          slot = hs;
          alive = alive;
          place = open-place M S z img tab a r n hn 2 p ne l24 ∙ ap (place_of S) (sym at);
          start = open-word M S z img tab a r n hn 2 p ne l24 17 (adr S 0) (omega arith) (omega arith) (zero_word 2 (omega arith) ∙ sym (adr-zero S));
          size = open-word M S z img tab a r n hn 2 p ne l24 21 0 (omega arith) (omega arith) (zero_word 6 (omega arith));
          pos = open-pos M S z img tab a r n hn 2 p ne l24 ∙ sym (adr-zero S);
          idle = λ q. open-zero M S z img tab a r n hn 2 p ne l24 34 (omega arith) (omega arith);
          busy = λ q. absurd (omega arith);
          short = omega arith;
          some = λ q. absurd (omega arith);
          buffer = λ q. absurd (omega arith);
        }

  module _ (s : ℕ) (hs : s < length (slots_of a.dir)) (dead : live (get_or a.slots s no_file).name 0 ≡ false) (alive : live nm 0 ≡ true) where
    abbrev p : ℕ
    p = get_or (slots_of a.dir) s 0

    abbrev made : File
    made = new_file (get_or a.slots s no_file).at nm date

    abbrev img' : List ℕ
    img' = stored img (store (p / 256) (p % 256 + 0) ne ∷ [])

    l24' : 0 + length ne ≤ 24
    l24' = omega (arith, l24)

    in_slot : (i x : ℕ) → i < 24 → p + i ≡ x → get_or img' x 0 ≡ get_or ne i 0
    in_slot i x b q = slot_at M S z img tab a r s hs 0 ne l24' i x (omega (arith, l24)) (omega arith)

    pub open-write : Agrees M S (stored img (store (p / 256) (p % 256) ne ∷ [])) (puts tab (320 * n) (ps M S z img tab a r n hn 2 p ne l24)) (set_file a s made n (writing s []))
    open-write =
        let shut : (n' : ℕ) → n' < 8 → n' ≢ n → opens (get_or a.blocks n' closed) ≢ suc s = λ n' h e. dead-shut M S z img tab a r n' h s dead in
        subst (λ (x : ℕ). Agrees M S (stored img (store (p / 256) x ne ∷ [])) (tab' M S z img tab a r n hn 2 p ne l24) (set_file a s made n (writing s []))) (omega arith)
        (step M S z img tab a r img' (tab' M S z img tab a r n hn 2 p ne l24) [] a.free a.spare n s made (writing s []) hn hs
        (slot-frame M S z img tab a r s hs 0 ne l24') (open_turn M S z img tab a r n hn 2 p ne l24) (slot-free M S z img tab a r s hs 0 ne l24') (slot-spare M S z img tab a r s hs 0 ne l24') (holds-made alive img' p in_slot (get_or a.slots s no_file).at (r.holds s hs).at)
        (subst (λ (g : File). Writing S (slots_of a.dir) (tab' M S z img tab a r n hn 2 p ne l24) n g s []) (sym (get_or-set_same a.slots s made no_file (omega (arith, r.ns, hs)))) (keeps-made alive (slots_of a.dir) s p hs refl (get_or a.slots s no_file).at))
        (λ x h. absurd (omega arith)) (λ x. omega (arith, ap (tally x) ((r.holds s hs).dead dead))) shut
        (λ n' h e w q. shut n' h e (sym q))
        (λ n' h e w q. shut n' h e (sym (writes-opens (get_or a.blocks n' closed) (omega (arith, q))) ∙ q)))

  -- the 24 bytes of the new slot
  pub made-entry : (o : ℕ) → ne ≡ entry_of (new_file o nm date)
  unfolding entry_of zeros
  made-entry o = refl
