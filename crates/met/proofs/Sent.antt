-- What is sent into a file that a block writes, whatever other blocks do.
use Rattle.std.specs.Prelude.{◌≡◌, ◌≢◌, Bool, false, ℕ, zero, suc, ◌+◌, ◌*◌, ◌≤◌, ◌<◌, length, get_or, set, drop, eqb}
use Rattle.std.proofs.Math.Path.{refl, ap, subst}
use Rattle.std.proofs.Common.{sym, ◌∙◌, arith, length-append, get_or-set_same}
use Rattle.std.proofs.Math.Bool.{true}
use mathlib.Core.List.{List, [], ◌∷◌, ◌++◌, append_assoc, append-nil}
use Rattle.std.proofs.Math.Decide.{ℕ_discrete, dec_lt}
use borrow.Author.Tests.{eq-eqb, ne_eqb}
use Rattle.rules.specs.Bytes.{pick, two, zeros, within}
use Rattle.rules.specs.Stores.{Put}
use Rattle.rules.specs.Transfer.{sent as sent_puts}
use Rattle.rules.specs.Directory.{live, slots_of, member}
use Rattle.rules.specs.Call.{served, fits}
use Rattle.laws.specs.Addresses.{Shape}
use Rattle.chains.specs.Addresses.{absurd-bool}
use Rattle.chains.specs.Chain.{set_last, length-pieces}
use Rattle.demands.specs.Ledger.{Call, setting, extending, asking, File, no_file, Block, closed, writing, Ledger, Request, asks, Fate, denied, granted, reply, busy, activity, block, file, set_block, set_file, set_free, with_last, with_new, pad_to, taken, transferred, performed, called}
use Rattle.met.specs.Relation.{opens, writes, Writing, Keeps}
use Rattle.met.specs.Searches.{not-busy, not-open}
use Rattle.met.specs.Tidy.{name_of}
use Rattle.met.specs.Changes.{Change, Changes, changes, other_block, Slot, kept, own, fresh, lost, moved, slot-fate, open-live}
use Rattle.demands.specs.Service.{flex, Machine, answers, next, entry, log}
use Rattle.demands.specs.History.{then, history, scenes, calls, Plain, Only, sent_in, sent_by, unfinished, room, Accepts, concat, front, content}
use Rattle.demands.specs.Demands.{counted}
use Rattle.met.specs.Meets.{Sure, ledger_by}
use Rattle.met.proofs.Runs.{scene_of, Fine, Likewise, asks-is, asked, beyond, likewise-set, likewise-extend, likewise-refused, likewise-asked, step}

-- ---- a request that passes the shared checks

module _ (M S : ℕ) (a : Ledger) (n : ℕ) (q : Request) where
  pub called_of : (k : ℕ) → q.code ≡ k → served k ≡ true → q.drive ≡ 0 → fits k (activity (block a n)) ≡ true → called M S a n q ≡ performed M S a n q
  unfolding called
  called_of k e s d f =
      let sv : served q.code ≡ true = ap served e ∙ s in
      let ft : fits q.code (activity (block a n)) ≡ true = ap (λ (x : ℕ). fits x (activity (block a n))) e ∙ f in
      rw (sv, eq-eqb q.drive 0 d, ft) refl

  pub called-zero : (o : Block) → q.code ≡ 0 → q.drive ≡ 0 → block a n ≡ o → fits 0 (activity o) ≡ true → called M S a n q ≡ transferred M S a n q o
  unfolding performed served within
  called-zero o e d b f =
      called_of 0 e refl d (ap (λ (x : Block). fits 0 (activity x)) b ∙ f) ∙ (rw (eq-eqb q.code 0 e, b) refl)

pub fits-two : fits 0 2 ≡ true
unfolding fits within
fits-two = refl

pub fits_one : fits 0 1 ≡ true
unfolding fits within
fits_one = refl

-- ---- lists of sectors' bytes

pub concat-snoc : (ds : List (List ℕ)) (d : List ℕ) → concat (ds ++ d ∷ []) ≡ concat ds ++ d
concat-snoc [] d = append-nil d
concat-snoc (x ∷ ds) d = ap (λ (y : List ℕ). x ++ y) (concat-snoc ds d) ∙ sym (append_assoc x (concat ds) d)

front-snoc : (ds : List (List ℕ)) (d : List ℕ) → front (ds ++ d ∷ []) ≡ ds
front-snoc [] d = refl
front-snoc (x ∷ []) d = refl
front-snoc (x ∷ y ∷ ds) d = ap (λ (l : List (List ℕ)). x ∷ l) (front-snoc (y ∷ ds) d)

pub concat-last : (ds : List (List ℕ)) (d : List ℕ) → 1 ≤ length ds → concat (set_last ds d) ≡ concat (front ds) ++ d
concat-last [] d h = absurd (omega arith)
concat-last (x ∷ []) d h = append-nil d
concat-last (x ∷ y ∷ ds) d h = ap (λ (l : List ℕ). x ++ l) (concat-last (y ∷ ds) d (omega arith)) ∙ sym (append_assoc x (concat (front (y ∷ ds))) d)

pad-full : (l : List ℕ) → pad_to (length l) l ≡ l
unfolding pad_to
pad-full [] = refl
pad-full (x ∷ l) = ap (λ (y : List ℕ). x ∷ y) (pad-full l)

pub content-none : (body : List (List ℕ)) (ub : List ℕ) → length ub ≡ 0 → content body ub ≡ concat body
unfolding content
content-none body ub e = rw (eq-eqb (length ub) 0 e) refl

pub content-some : (body : List (List ℕ)) (ub : List ℕ) → 1 ≤ length ub → content body ub ≡ concat (front body) ++ ub
unfolding content
content-some body ub h = rw (ne_eqb (length ub) 0 (omega arith)) refl

-- ---- a file that block n writes: what was sent into it

pub record Wrote (a : Ledger) (n s : ℕ) (nm sent : List ℕ) : Type 0 where
  pub left : List ℕ
  pub writer : block a n ≡ writing s left
  pub name : (file a s).name ≡ nm
  pub mode : (file a s).mode ≡ zeros 2
  pub bytes : content (file a s).body left ≡ sent
  pub whole : length left ≡ 0 → length sent ≡ 252 * length (file a s).secs
  pub part : 1 ≤ length left → length sent + 252 ≡ 252 * length (file a s).secs + length left
  pub recs : (file a s).recs ≡ counted 1 (length (file a s).secs)

-- a byte is taken, or no sector is free and one is needed
pub data Wrought (a : Ledger) (n s : ℕ) (nm sent : List ℕ) (b : ℕ) : Fate → Type 0 where
  took : (a' : Ledger) (ps : List Put) → Wrote a' n s nm (sent ++ b ∷ []) → Wrought a n s nm sent b (granted 0 a' ps)
  full : a.free ≡ [] → length (unfinished (block a n)) ≡ 0 → Wrought a n s nm sent b (denied 7)

-- one more record number
counted-snoc : (i c k : ℕ) → i + c ≡ k → counted i c ++ two k ∷ [] ≡ counted i (suc c)
unfolding counted
counted-snoc i zero k e = ap (λ (x : ℕ). two x ∷ []) (omega arith)
counted-snoc i (suc c) k e = ap (λ (l : List (List ℕ)). two i ∷ l) (counted-snoc (i + 1) c k (omega arith))

-- the bytes of blocks have no say in it
pub wrote-like : (a a' : Ledger) → Likewise a a' → (n s : ℕ) (nm sent : List ℕ) → Wrote a n s nm sent → Wrote a' n s nm sent
wrote-like a a' l n s nm sent w =
    let k : file a' s ≡ file a s = ap (λ (fs : List File). get_or fs s no_file) l.slots in
    record {
      left = w.left;
      writer = ap (λ (bs : List Block). get_or bs n closed) l.blocks ∙ w.writer;
      name = ap (λ (y : File). y.name) k ∙ w.name;
      mode = ap (λ (y : File). y.mode) k ∙ w.mode;
      bytes = ap (λ (y : File). content y.body w.left) k ∙ w.bytes;
      whole = λ y. w.whole y ∙ ap (λ (y : File). 252 * length y.secs) (sym k);
      part = λ y. w.part y ∙ ap (λ (y : File). 252 * length y.secs + length w.left) (sym k);
      recs = ap (λ (y : File). y.recs) k ∙ w.recs ∙ ap (λ (y : File). counted 1 (length y.secs)) (sym k);
    }

pick-none : (u : Bool) → pick {A = List ℕ} u [] [] ≡ []
pick-none true = refl
pick-none false = refl

-- the one function that is allowed
one_of : (code : ℕ) → member code (0 ∷ []) ≡ true → code ≡ 0
unfolding member
one_of code h = go (ℕ_discrete code 0)
  where
    go : Dec (code ≡ 0) → code ≡ 0
    go (yes e) = e
    go (no e) = absurd-bool h (rw (ne_eqb 0 code (λ x. e (sym x))) refl)

length-one-more : (l : List ℕ) (b : ℕ) → length (l ++ b ∷ []) ≡ length l + 1
length-one-more l b = length-append l (b ∷ [])

-- a call of another block, a refused one, a preset: block n and its file stay
pub record Untouched (a a' : Ledger) (n s : ℕ) : Type 0 where
  pub same_block : block a' n ≡ block a n
  pub same_file : file a' s ≡ file a s

pub untouched : (a a' : Ledger) (n s : ℕ) → Likewise a a' → Untouched a a' n s
untouched a a' n s l = record { same_block = ap (λ (bs : List Block). get_or bs n closed) l.blocks; same_file = ap (λ (fs : List File). get_or fs s no_file) l.slots }

module _ (M S : ℕ) (z : Shape M S) where
  module _ (x : Machine) (a : Ledger) (g : Fine M S x a) (n s : ℕ) (nm sent : List ℕ) (hn : n < 8) (w : Wrote a n s nm sent) (q : Request) where
    abbrev f : File
    f = file a s

    wr : Writing S (slots_of a.dir) x.tab n (file a s) s w.left
    wr = subst (λ (b : Block). Keeps S (slots_of a.dir) x.tab n a.slots b) w.writer (g.agrees.keeps n hn)

    set_b : (c : Block) → get_or (set a.blocks n c) n closed ≡ c
    set_b c = get_or-set_same a.blocks n c closed (omega (arith, g.agrees.nb))

    set-f : (k : File) → get_or (set a.slots s k) s no_file ≡ k
    set-f k = get_or-set_same a.slots s k no_file (omega (arith, g.agrees.ns, wr.slot))

    body-length : length (file a s).body ≡ length (file a s).secs
    body-length = ap length (g.agrees.holds s wr.slot).body ∙ length-pieces 4 252 x.img (file a s).secs

    -- the first byte of a sector
    first_byte : length w.left ≡ 0 → (fr : List ℕ) → a.free ≡ fr → Wrought a n s nm sent q.byte (taken M S a n q s fr)
    first_byte e [] h = full h (ap (λ (b : Block). length (unfinished b)) w.writer ∙ e)
    first_byte e (k ∷ fr) h =
        let sf = set-f (with_new S (file a s) k) in
        took (set_free a fr (drop 1 a.spare) s (with_new S (file a s) k) n (writing s (q.byte ∷ []))) _
        (record {
          left = q.byte ∷ [];
          writer = set_b (writing s (q.byte ∷ []));
          name = ap (λ (y : File). y.name) sf ∙ w.name;
          mode = ap (λ (y : File). y.mode) sf ∙ w.mode;
          bytes = ap (λ (y : File). content y.body (q.byte ∷ [])) sf ∙ new-bytes k;
          whole = λ y. absurd (omega arith);
          part = λ y. length-sums k (ap (λ (y : File). length y.secs) sf);
          recs = ap (λ (y : File). y.recs) sf ∙ new-recs k ∙ ap (λ (y : File). counted 1 (length y.secs)) (sym sf);
        })
      where
        new-bytes : (k : ℕ) → content ((file a s).body ++ zeros 252 ∷ []) (q.byte ∷ []) ≡ sent ++ q.byte ∷ []
        new-bytes k =
            content-some ((file a s).body ++ zeros 252 ∷ []) (q.byte ∷ []) (omega arith)
            ∙ ap (λ (y : List (List ℕ)). concat y ++ q.byte ∷ []) (front-snoc (file a s).body (zeros 252))
            ∙ ap (λ (y : List ℕ). y ++ q.byte ∷ []) (sym (content-none (file a s).body w.left e) ∙ w.bytes)

        one-longer : (k : ℕ) → suc (length (file a s).secs) ≡ length ((file a s).secs ++ k ∷ [])
        one-longer k = omega (arith, length-append (file a s).secs (k ∷ []))

        new-recs : (k : ℕ) → (file a s).recs ++ two (length (file a s).secs + 1) ∷ [] ≡ counted 1 (length ((file a s).secs ++ k ∷ []))
        new-recs k =
            ap (λ (l : List (List ℕ)). l ++ two (length (file a s).secs + 1) ∷ []) w.recs
            ∙ counted-snoc 1 (length (file a s).secs) (length (file a s).secs + 1) (omega arith) ∙ ap (counted 1) (one-longer k)

        length-sums : (k : ℕ) → length (get_or (set a.slots s (with_new S (file a s) k)) s no_file).secs ≡ length ((file a s).secs ++ k ∷ [])
            → length (sent ++ q.byte ∷ []) + 252 ≡ 252 * length (get_or (set a.slots s (with_new S (file a s) k)) s no_file).secs + 1
        length-sums k y = omega (arith, y, length-append (file a s).secs (k ∷ []), length-one-more sent q.byte, w.whole e)

    -- a byte inside, the last byte
    next-byte : 1 ≤ length w.left
        → Wrought a n s nm sent q.byte (pick (eqb (length w.left) 251) (granted 0 (set_file a s (with_last (file a s) (pad_to 251 w.left ++ q.byte ∷ [])) n (writing s [])) (sent_puts 255 q.byte))
        (granted 0 (set_block a n (writing s (w.left ++ q.byte ∷ []))) (sent_puts (4 + length w.left) q.byte)))
    next-byte h = go (ℕ_discrete (length w.left) 251)
      where
        go : Dec (length w.left ≡ 251)
            → Wrought a n s nm sent q.byte (pick (eqb (length w.left) 251) (granted 0 (set_file a s (with_last (file a s) (pad_to 251 w.left ++ q.byte ∷ [])) n (writing s [])) (sent_puts 255 q.byte))
            (granted 0 (set_block a n (writing s (w.left ++ q.byte ∷ []))) (sent_puts (4 + length w.left) q.byte)))
        go (yes e) =
            let sf = set-f (with_last (file a s) (pad_to 251 w.left ++ q.byte ∷ [])) in
            let lf : pad_to 251 w.left ≡ w.left = subst (λ (c : ℕ). pad_to c w.left ≡ w.left) e (pad-full w.left) in
            rw (eq-eqb (length w.left) 251 e)
            (took (set_file a s (with_last (file a s) (pad_to 251 w.left ++ q.byte ∷ [])) n (writing s [])) _
            (record {
              left = [];
              writer = set_b (writing s []);
              name = ap (λ (y : File). y.name) sf ∙ w.name;
              mode = ap (λ (y : File). y.mode) sf ∙ w.mode;
              bytes = ap (λ (y : File). content y.body []) sf
                  ∙ content-none (set_last (file a s).body (pad_to 251 w.left ++ q.byte ∷ [])) [] refl
                  ∙ concat-last (file a s).body (pad_to 251 w.left ++ q.byte ∷ []) (omega (arith, body-length, wr.some h))
                  ∙ ap (λ (y : List ℕ). concat (front (file a s).body) ++ (y ++ q.byte ∷ [])) lf
                  ∙ sym (append_assoc (concat (front (file a s).body)) w.left (q.byte ∷ []))
                  ∙ ap (λ (y : List ℕ). y ++ q.byte ∷ []) (sym (content-some (file a s).body w.left h) ∙ w.bytes);
              whole = λ y. omega (arith, ap (λ (y : File). length y.secs) sf, length-one-more sent q.byte, w.part h, e);
              part = λ y. absurd (omega arith);
              recs = ap (λ (y : File). y.recs) sf ∙ w.recs ∙ ap (λ (y : File). counted 1 (length y.secs)) (sym sf);
            }))
        go (no e) =
            rw (ne_eqb (length w.left) 251 e)
            (took (set_block a n (writing s (w.left ++ q.byte ∷ []))) _
            (record {
              left = w.left ++ q.byte ∷ [];
              writer = set_b (writing s (w.left ++ q.byte ∷ []));
              name = w.name;
              mode = w.mode;
              bytes = content-some (file a s).body (w.left ++ q.byte ∷ []) (omega (arith, length-one-more w.left q.byte))
                  ∙ sym (append_assoc (concat (front (file a s).body)) w.left (q.byte ∷ []))
                  ∙ ap (λ (y : List ℕ). y ++ q.byte ∷ []) (sym (content-some (file a s).body w.left h) ∙ w.bytes);
              whole = λ y. absurd (omega (arith, length-one-more w.left q.byte));
              part = λ y. omega (arith, length-one-more w.left q.byte, length-one-more sent q.byte, w.part h);
              recs = w.recs;
            }))

    own-write : Wrought a n s nm sent q.byte (transferred M S a n q (writing s w.left))
    own-write = go (ℕ_discrete (length w.left) 0)
      where
        go : Dec (length w.left ≡ 0) → Wrought a n s nm sent q.byte (transferred M S a n q (writing s w.left))
        go (yes e) = rw (eq-eqb (length w.left) 0 e) (first_byte e a.free refl)
        go (no e) = rw (ne_eqb (length w.left) 0 e) (next-byte (omega arith))

  -- ---- what another block does leaves an open file

  module _ (x : Machine) (a : Ledger) (g : Fine M S x a) (m : ℕ) (hm : m < 8) (q : Request) (a' : Ledger) (c : Change a m q a') where
    pub open_kept : (n s : ℕ) → n < 8 → n ≢ m → opens (block a n) ≡ suc s → (block a' n ≡ block a n) × (file a' s ≡ file a s)
    open_kept n s hn ne o = (other_block a a' m q c n ne, go (slot-fate a a' m q c s))
      where
        alive : (live (name_of a.slots s) 0 ≡ true) × (s < length a.slots)
        alive = open-live M S x.img x.tab a g.agrees n s hn o

        shut : busy true s a.blocks 8 ≡ false → ⊥
        shut h = not-open s (block a n) (not-busy true s a.blocks 8 n h hn) o

        go : Slot a a' m q s → file a' s ≡ file a s
        go (kept e k) = e
        go (own ub e) = absurd (g.agrees.alone m n (λ y. ne (sym y)) hm hn (omega (arith, ap writes e)) (ap writes e ∙ sym o))
        go (fresh e) = absurd-bool alive.0 e
        go (lost e v by k) = absurd (shut by)
        go (moved e v by k) = absurd (shut by)

  -- ---- over the log

  -- an accepted call of another block leaves an open file
  pub other-kept : (x : Machine) (a : Ledger) (g : Fine M S x a) (m b n s : ℕ) → m < 8 → n < 8 → m ≢ n → answers flex x (asking m b) ≡ 0
      → opens (block a n) ≡ suc s
      → (block (then M S a (entry flex x (asking m b))) n ≡ block a n) × (file (then M S a (entry flex x (asking m b))) s ≡ file a s)
  other-kept x a g m b n s hm hn ne q o =
      let st = asked M S z x a g m b hm in
      let l = likewise-asked M S x a m b st in
      let k = by (called M S a m (asks a m b)) (changes M S a m (asks a m b)) st.sure st.ans in
      (ap (λ (bs : List Block). get_or bs n closed) l.blocks ∙ k.0, ap (λ (fs : List File). get_or fs s no_file) l.slots ∙ k.1)
    where
      by : (φ : Fate) → Changes a m (asks a m b) φ → Sure φ → answers flex x (asking m b) ≡ reply φ
          → (block (ledger_by a φ) n ≡ block a n) × (file (ledger_by a φ) s ≡ file a s)
      by (denied v) c su an = absurd (su (sym an ∙ q))
      by (granted v a' ps) c su an = open_kept x a g m hm (asks a m b) a' c n s hn (λ y. ne (sym y)) o

  pub other-call : (x : Machine) (a : Ledger) (g : Fine M S x a) (m b n s : ℕ) → n < 8 → m ≢ n → opens (block a n) ≡ suc s
      → Untouched a (then M S a (entry flex x (asking m b))) n s
  unfolding entry
  other-call x a g m b n s hn ne o = go (ℕ_discrete (answers flex x (asking m b)) 0) (dec_lt m 8)
    where
      go : Dec (answers flex x (asking m b) ≡ 0) → Dec (m < 8) → Untouched a (then M S a (entry flex x (asking m b))) n s
      go (no q) h = untouched a (then M S a (entry flex x (asking m b))) n s (likewise-refused M S a m b _ _ q)
      go (yes q) (no h) = absurd (omega (arith, q, beyond M S z x a g m b (omega arith)))
      go (yes q) (yes h) = let k = other-kept x a g m b n s h hn ne q o in record { same_block = k.0; same_file = k.1 }

  module _ (x : Machine) (a : Ledger) (g : Fine M S x a) (n s : ℕ) (nm sent : List ℕ) (hn : n < 8) (w : Wrote a n s nm sent) where
    abbrev Now : Call → Type 0
    Now c = Wrote (then M S a (entry flex x c)) n s nm (sent ++ sent_in n (scene_of M S x a c))
        × (calls n 0 (scene_of M S x a c) ≡ true → room a n ≡ true → answers flex x c ≡ 0)

    kept_by : (a' : Ledger) → Untouched a a' n s → Wrote a' n s nm (sent ++ [])
    kept_by a' u =
        let k = u.same_file in
        record {
          left = w.left;
          writer = u.same_block ∙ w.writer;
          name = ap (λ (y : File). y.name) k ∙ w.name;
          mode = ap (λ (y : File). y.mode) k ∙ w.mode;
          bytes = ap (λ (y : File). content y.body w.left) k ∙ w.bytes ∙ sym (append-nil sent);
          whole = λ y. ap length (append-nil sent) ∙ w.whole y ∙ ap (λ (y : File). 252 * length y.secs) (sym k);
          part = λ y. ap (λ (l : List ℕ). length l + 252) (append-nil sent) ∙ w.part y ∙ ap (λ (y : File). 252 * length y.secs + length w.left) (sym k);
          recs = ap (λ (y : File). y.recs) k ∙ w.recs ∙ ap (λ (y : File). counted 1 (length y.secs)) (sym k);
        }

    -- another block
    other : (m b : ℕ) → m ≢ n → Now (asking m b)
    other m b ne =
        rw (ne_eqb m n ne)
        (kept_by (then M S a (entry flex x (asking m b))) (other-call x a g m b n s hn ne (ap opens w.writer)), λ q. absurd-bool q refl)

    -- its own, refused
    own-refused : (b : ℕ) → answers flex x (asking n b) ≢ 0 → Wrote (then M S a (entry flex x (asking n b))) n s nm (sent ++ sent_in n (scene_of M S x a (asking n b)))
    unfolding entry
    own-refused b q =
        subst (λ (l : List ℕ). Wrote (then M S a (entry flex x (asking n b))) n s nm (sent ++ l)) (sym nothing)
        (kept_by (then M S a (entry flex x (asking n b))) (untouched a (then M S a (entry flex x (asking n b))) n s (likewise-refused M S a n b _ _ q)))
      where
        nothing : sent_in n (scene_of M S x a (asking n b)) ≡ []
        nothing = rw (ne_eqb (answers flex x (asking n b)) 0 q) (pick-none (calls n 0 (scene_of M S x a (asking n b))))

    no_room : a.free ≡ [] → length (unfinished (block a n)) ≡ 0 → room a n ≡ true → ⊥
    no_room e u h = absurd-bool h (rw (e, u) refl)

    -- its own, a byte
    own-byte : (b : ℕ) → (asks a n b).code ≡ 0 → Now (asking n b)
    own-byte b c =
        let wr : Writing S (slots_of a.dir) x.tab n (file a s) s w.left =
        subst (λ (y : Block). Keeps S (slots_of a.dir) x.tab n a.slots y) w.writer (g.agrees.keeps n hn) in
        let dr : (asks a n b).drive ≡ 0 = ap (λ (y : Request). y.drive) (sym (asks-is M S z x a g n b hn)) ∙ wr.drive in
        let φ : called M S a n (asks a n b) ≡ transferred M S a n (asks a n b) (writing s w.left) =
        called-zero M S a n (asks a n b) (writing s w.left) c dr w.writer fits-two in
        let st = asked M S z x a g n b hn in
        by (called M S a n (asks a n b)) st.ans (likewise-asked M S x a n b st) (subst (Wrought a n s nm sent b) (sym φ) (own-write x a g n s nm sent hn w (asks a n b)))
      where
        sent-here : answers flex x (asking n b) ≡ 0 → b ∷ [] ≡ sent_in n (scene_of M S x a (asking n b))
        sent-here q = rw (eq-eqb n n refl, eq-eqb (asks a n b).code 0 c, eq-eqb (answers flex x (asking n b)) 0 q) refl

        by : (φ : Fate) → answers flex x (asking n b) ≡ reply φ → Likewise (ledger_by a φ) (then M S a (entry flex x (asking n b)))
            → Wrought a n s nm sent b φ → Now (asking n b)
        by φ an l (took a' ps v) = (
          subst (λ (k : List ℕ). Wrote (then M S a (entry flex x (asking n b))) n s nm (sent ++ k)) (sent-here an) (wrote-like a' (then M S a (entry flex x (asking n b))) l n s nm (sent ++ b ∷ []) v),
          λ r f. an,
        )
        by φ an l (full e u) = (own-refused b (omega (arith, an)), λ r f. absurd (no_room e u f))

    wrote_one : (c : Call) → Only n (0 ∷ []) (scene_of M S x a c ∷ []) → Now c
    unfolding entry
    wrote_one (setting m i v) op =
        (kept_by (then M S a (entry flex x (setting m i v))) (untouched a (then M S a (entry flex x (setting m i v))) n s (likewise-set M S a m i v _ _)), λ q. absurd-bool q refl)
    wrote_one (extending m c) op =
        (kept_by (then M S a (entry flex x (extending m c))) (untouched a (then M S a (entry flex x (extending m c))) n s (likewise-extend M S a m c _ _)), λ q. absurd-bool q refl)
    wrote_one (asking m b) op = go (ℕ_discrete m n)
      where
        own : (op : Only n (0 ∷ []) (scene_of M S x a (asking n b) ∷ [])) → Dec ((asks a n b).code ≡ 0) → Dec (answers flex x (asking n b) ≡ 0) → Now (asking n b)
        own op (yes c) q = own-byte b c
        own op (no c) (yes q) = absurd (c (one_of (asks a n b).code (rw (eq-eqb n n refl) at (op.0 q))))
        own op (no c) (no q) = (own-refused b q, λ h. absurd-bool h (rw (eq-eqb n n refl, ne_eqb (asks a n b).code 0 c) refl))

        go : Dec (m ≡ n) → Now (asking m b)
        go (yes e) =
            subst (λ (k : ℕ). Only n (0 ∷ []) (scene_of M S x a (asking k b) ∷ []) → Now (asking k b)) (sym e)
            (λ op. own op (ℕ_discrete (asks a n b).code 0) (ℕ_discrete (answers flex x (asking n b)) 0)) op
        go (no e) = other m b e

  -- WRITING: whatever else is called, the file has what was sent to it, and while there is room every byte is accepted
  pub written : (cs : List Call) (x : Machine) (a : Ledger) → Fine M S x a → (n s : ℕ) (nm sent : List ℕ) → n < 8 → Wrote a n s nm sent
      → Plain (scenes M S a (log flex x cs)) → Only n (0 ∷ []) (scenes M S a (log flex x cs))
      → Wrote (history M S a (log flex x cs)) n s nm (sent ++ sent_by n (scenes M S a (log flex x cs))) × Accepts n (scenes M S a (log flex x cs))
  unfolding log history scenes entry sent_by
  written [] x a g n s nm sent hn w p op = (subst (λ (l : List ℕ). Wrote a n s nm l) (sym (append-nil sent)) w, tt)
  written (c ∷ cs) x a g n s nm sent hn w p op =
      let sc = scene_of M S x a c in
      let a' = then M S a (entry flex x c) in
      let ss = scenes M S a' (log flex (next flex x c) cs) in
      let w1 = wrote_one x a g n s nm sent hn w c (op.0, tt) in
      let w2 = written cs (next flex x c) a' ((step M S z x a g c).fine p.0) n s nm (sent ++ sent_in n sc) hn w1.0 p.1 op.1 in (
        subst (λ (l : List ℕ). Wrote (history M S a' (log flex (next flex x c) cs)) n s nm l) (append_assoc sent (sent_in n sc) (sent_by n ss)) w2.0,
        (w1.1, w2.1),
      )
