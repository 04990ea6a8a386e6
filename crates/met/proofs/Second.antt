-- DEMAND 2 of our service.
use Rattle.std.specs.Prelude.{◌≡◌, ◌≢◌, Bool, false, ℕ, zero, suc, ◌+◌, ◌-◌, ◌*◌, ◌/◌, ◌%◌, ◌≤◌, ◌<◌, set, eqb}
use Rattle.std.proofs.Math.Path.{refl, sym, ap}
use Rattle.std.proofs.Common.{ap₂, ◌∙◌, subst, length-set, get_or-set_same, get_or-set_other, eq-eqb, ne_eqb, eqb-true}
use Rattle.std.proofs.Math.Bool.{true}
use mathlib.Core.List.{List, [], ◌∷◌, ◌++◌, append_assoc, append-nil}
use native.Mathlib.Omega.{arith}
use Rattle.std.proofs.Math.Decide.{ℕ_discrete, dec_lt}
use Rattle.std.proofs.Math.ListN.{length, get_or}
use Rattle.std.proofs.Math.Seq.{get_or-append-add}
use Rattle.rules.specs.Bytes.{pick, within, byte_at, word_at, zeros}
use Rattle.rules.specs.Stores.{Put}
use Rattle.rules.specs.Names.{legal}
use Rattle.rules.specs.Directory.{first_slot_of, slots_of, live, vacant, size_at}
use Rattle.rules.specs.Block.{idle}
use Rattle.rules.specs.Files.{has_attribute, read_protected, opened as puts_opened}
use Rattle.rules.specs.Call.{served, fits}
use Rattle.laws.specs.Tests.{both}
use Rattle.laws.specs.Addresses.{Shape}
use Rattle.chains.specs.Chain.{pieces, length-pieces}
use Rattle.demands.specs.Ledger.{Call, setting, extending, asking, File, no_file, Block, closed, listing, reading, writing, Ledger, Request, asks, Fate, denied, granted, reply, Sought, nowhere, slot, on_sought, file_named, vacant_slot, slot_for_new, holds_open, busy, activity, block, file, attributes, entry_of, table_of, set_block, set_file, with_last, with_name, new_file, unused_slots, add_sector, pad_to, opened_to_read, opened_to_write, shut_block, performed, called}
use Rattle.demands.specs.Service.{flex, Machine, answers, next, entry, run, log}
use Rattle.demands.specs.History.{then, history, scenes, Plain, hits, name_after, name_then, ending, Survives, sent_by, concat, front, content}
use Rattle.demands.specs.Demands.{Start, begun, last_track_of, per_track_of, told, past, Asks, Idle, name_of, rest, counted, ReadBack, Kept, Created, Demand2}
use Rattle.met.specs.Relation.{writes, Writing, Keeps}
use Rattle.met.specs.Quiet.{nobody, writes-opens}
use Rattle.met.specs.Meets.{Sure, ledger_by}
use Rattle.met.specs.Searches.{slot_same, seek_found}
use Rattle.met.specs.Tidy.{slot-not}
use Rattle.met.specs.Changes.{Changes, changes, rename-legal}
use Rattle.met.specs.Forms.{table_is}
use Rattle.met.proofs.Runs.{scene_of, plain_code, Fine, Likewise, asked, beyond, likewise-asked, step, always, start-shape, start_fine}
use Rattle.met.proofs.Rests.{Rests, found, rests-like, rests}
use Rattle.met.proofs.Sent.{called_of, concat-last, content-none, content-some, Wrote, wrote-like, written}
use Rattle.met.proofs.Got.{at-start, reads}
use Rattle.met.proofs.Stays.{history-onward, slot-stood}
use Rattle.met.specs.Second.{sectors-whole}

-- ---- zeros to the end of the sector

pad-none : (n : ℕ) → pad_to n [] ≡ zeros n
unfolding pad_to zeros
pad-none zero = refl
pad-none (suc n) = ap (λ (y : List ℕ). 0 ∷ y) (pad-none n)

pad-is : (n : ℕ) (l : List ℕ) → length l ≤ n → pad_to n l ≡ l ++ zeros (n - length l)
unfolding pad_to
pad-is zero [] h = pad-none zero
pad-is zero (x ∷ l) h = absurd (omega arith)
pad-is (suc n) [] h = pad-none (suc n) ∙ ap zeros (omega arith)
pad-is (suc n) (x ∷ l) h = ap (λ (y : List ℕ). x ∷ y) (pad-is n l (omega arith)) ∙ ap (λ (k : ℕ). x ∷ (l ++ zeros k)) (omega arith)

zeros-none : zeros 0 ≡ []
unfolding zeros
zeros-none = refl

-- how many sectors, and how many zeros
sectors-part : (n k r : ℕ) → n + 252 ≡ 252 * k + r → 1 ≤ r → r < 252 → ((n + 251) / 252 ≡ k) × ((252 - n % 252) % 252 ≡ 252 - r)
sectors-part n k r e h b = (omega arith, rest-is (k - 1) (omega arith))
  where
    rest-is : (j : ℕ) → n ≡ 252 * j + r → (252 - n % 252) % 252 ≡ 252 - r
    rest-is j q = let m : n % 252 ≡ r = omega arith in rw m (omega arith)

-- nobody writes it: it can be read
quiet-free : (bs : List Block) (s c : ℕ) → ((m : ℕ) → m < c → writes (get_or bs m closed) ≢ suc s) → busy false s bs c ≡ false
unfolding busy
quiet-free bs s zero h = refl
quiet-free bs s (suc c) h = rw (go (get_or bs c closed) (h c (omega arith))) (quiet-free bs s c (λ m b. h m (omega arith)))
  where
    go : (b : Block) → writes b ≢ suc s → holds_open false s b ≡ false
    go closed n = refl
    go (listing p) n = refl
    go (reading t j i) n = refl
    go (writing t ub) n = ne_eqb t s (λ e. n (ap suc e))

-- no name is given
either_way : (u : Bool) (nm : List ℕ) → legal nm 0 ≡ true → legal (pick (pick u false false) nm nm) 0 ≡ true
either_way true nm l = l
either_way false nm l = l

module _ (M S : ℕ) (z : Shape M S) where
  -- an idle block takes the functions that want one
  fits-idle : (k act : ℕ) → k ≡ 1 → idle act ≡ true → fits k act ≡ true
  unfolding fits within
  fits-idle k act e h = rw e h

  -- ---- the name stays legal
  rename-ok : (x : Machine) (a : Ledger) (g : Fine M S x a) (n b : ℕ) (nm : List ℕ) → legal nm 0 ≡ true → (u : Bool)
      → hits 13 nm (scene_of M S x a (asking n b)) ≡ u → legal (pick u (asks a n b).rename nm) 0 ≡ true
  rename-ok x a g n b nm l false e = l
  rename-ok x a g n b nm l true e =
      let p = both (eqb (answers flex x (asking n b)) 0) _ e in
      let q = both (eqb (asks a n b).code 13) _ p.1 in
      go (eqb-true (answers flex x (asking n b)) 0 p.0) (eqb-true (asks a n b).code 13 q.0) (dec_lt n 8)
    where
      go : answers flex x (asking n b) ≡ 0 → (asks a n b).code ≡ 13 → Dec (n < 8) → legal (asks a n b).rename 0 ≡ true
      go q c (no h) = absurd (omega (arith, q, beyond M S z x a g n b (omega arith)))
      go q c (yes h) =
          let st = asked M S z x a g n b h in
          by (called M S a n (asks a n b)) (changes M S a n (asks a n b)) st.sure st.ans
        where
          by : (φ : Fate) → Changes a n (asks a n b) φ → Sure φ → answers flex x (asking n b) ≡ reply φ → legal (asks a n b).rename 0 ≡ true
          by (denied v) k su an = absurd (su (sym an ∙ q))
          by (granted v a' ps) k su an = rename-legal a a' n (asks a n b) k c

  name-ok : (x : Machine) (a : Ledger) (g : Fine M S x a) (c : Call) (nm : List ℕ) → legal nm 0 ≡ true → legal (name_after nm (scene_of M S x a c)) 0 ≡ true
  name-ok x a g (setting n i v) nm l = either_way (eqb (answers flex x (setting n i v)) 0) nm l
  name-ok x a g (extending n c) nm l = either_way (eqb (answers flex x (extending n c)) 0) nm l
  name-ok x a g (asking n b) nm l = rename-ok x a g n b nm l (hits 13 nm (scene_of M S x a (asking n b))) refl

  legal-then : (cs : List Call) (x : Machine) (a : Ledger) → Fine M S x a → Plain (scenes M S a (log flex x cs)) → (nm : List ℕ) → legal nm 0 ≡ true
      → legal (name_then nm (scenes M S a (log flex x cs))) 0 ≡ true
  unfolding log scenes entry name_then
  legal-then [] x a g p nm l = l
  legal-then (c ∷ cs) x a g p nm l =
      legal-then cs (next flex x c) (then M S a (entry flex x c)) ((step M S z x a g c).fine p.0) p.1 (name_after nm (scene_of M S x a c)) (name-ok x a g c nm l)

  -- ---- a call whose fate is known
  module _ (x : Machine) (a : Ledger) (g : Fine M S x a) (n b : ℕ) (hn : n < 8) where
    pub answer-by : (φ : Fate) → called M S a n (asks a n b) ≡ φ → answers flex x (asking n b) ≡ reply φ
    answer-by φ e = (asked M S z x a g n b hn).ans ∙ ap reply e

    pub like-by : (φ : Fate) → called M S a n (asks a n b) ≡ φ → Likewise (ledger_by a φ) (then M S a (entry flex x (asking n b)))
    like-by φ e =
        subst (λ (ψ : Fate). Likewise (ledger_by a ψ) (then M S a (entry flex x (asking n b)))) e
        (likewise-asked M S x a n b (asked M S z x a g n b hn))

  -- ---- a file at rest is opened for read and read
  module _ (x : Machine) (a : Ledger) (g : Fine M S x a) (s : ℕ) (f : File) (r : Rests a s f) (ok : legal f.name 0 ≡ true) (new : f.mode ≡ zeros 2)
      (m b : ℕ) (k : Asks a m 1) (i : Idle a m) (nm : name_of a m ≡ f.name) where
    abbrev a1 : Ledger
    a1 = then M S a (entry flex x (asking m b))

    -- a file that our calls made has no attributes
    readable : read_protected (attributes a s) ≡ false
    unfolding has_attribute zeros
    readable = ap (λ (y : File). read_protected (byte_at y.mode 0)) r.is ∙ ap (λ (l : List ℕ). read_protected (byte_at l 0)) new

    opened : called M S a m (asks a m b) ≡ granted 0 (set_block a m (reading s 0 0)) (puts_opened S 1 (file a s).at (entry_of (file a s)))
    unfolding performed served within opened_to_read
    opened =
        let fd : file_named (asks a m b).name a.slots ≡ slot s = ap (λ (y : List ℕ). file_named y a.slots) nm ∙ found a g.tidy s f r in
        let lg : legal (asks a m b).name 0 ≡ true = ap (λ (y : List ℕ). legal y 0) nm ∙ ok in
        called_of M S a m (asks a m b) 1 k.function refl k.drive (fits-idle 1 (activity (block a m)) refl i)
        ∙ (rw (k.function, lg, fd, readable, quiet-free a.blocks s 8 r.quiet) refl)

    pub read_back : ReadBack flex M S x a (concat f.body) m b
    read_back =
        let l = like-by x a g m b k.block _ opened in
        record {
          opens = answer-by x a g m b k.block _ opened;
          reads = λ cs pl op. reads M S z cs (next flex x (asking m b)) a1 ((step M S z x a g (asking m b)).fine (plain_code M S x a m b 1 k.function refl)) m s 0 (concat f.body) k.block
              (at-start a1 m s (concat f.body)
              (ap (λ (bs : List Block). get_or bs m closed) l.blocks ∙ get_or-set_same a.blocks m (reading s 0 0) closed (omega (arith, g.agrees.nb, k.block)))
              (ap (λ (fs : List File). concat (get_or fs s no_file).body) l.slots ∙ ap (λ (y : File). concat y.body) r.is)) pl op;
        }

  -- ---- a file that was written is closed
  module _ (x : Machine) (a : Ledger) (g : Fine M S x a) (n s : ℕ) (nm sent : List ℕ) (hn : n < 8) (w : Wrote a n s nm sent) (b : ℕ) (k : Asks a n 4) where
    wr : Writing S (slots_of a.dir) x.tab n (file a s) s w.left
    wr = subst (λ (y : Block). Keeps S (slots_of a.dir) x.tab n a.slots y) w.writer (g.agrees.keeps n hn)

    body-length : length (file a s).body ≡ length (file a s).secs
    body-length = ap length (g.agrees.holds s wr.slot).body ∙ length-pieces 4 252 x.img (file a s).secs

    close-fate : called M S a n (asks a n b) ≡ shut_block M S a n (asks a n b) (writing s w.left)
    unfolding performed served within fits
    close-fate =
        called_of M S a n (asks a n b) 4 k.function refl k.drive (ap (λ (y : Block). fits 4 (activity y)) w.writer) ∙ (rw (k.function, w.writer) refl)

    -- it is accepted, whatever was written
    shut-accepted : (u v : Bool) (p q t : Fate) → reply p ≡ 0 → reply q ≡ 0 → reply t ≡ 0 → reply (pick u p (pick v q t)) ≡ 0
    shut-accepted true v p q t hp hq ht = hp
    shut-accepted false true p q t hp hq ht = hq
    shut-accepted false false p q t hp hq ht = ht

    pub close-accepted : answers flex x (asking n b) ≡ 0
    close-accepted =
        answer-by x a g n b hn _ close-fate ∙ shut-accepted (eqb (length (file a s).secs) 0) (eqb (length w.left) 0) _ _ _ refl refl refl

    module _ (some : 1 ≤ length sent) where
      has-secs : 1 ≤ length (file a s).secs
      has-secs = go (ℕ_discrete (length w.left) 0)
        where
          go : Dec (length w.left ≡ 0) → 1 ≤ length (file a s).secs
          go (yes e) = let q = w.whole e in omega arith
          go (no e) = wr.some (omega arith)

      -- the ledger after the close has it at rest
      record Shut (φ : Fate) : Type 0 where
        pub f : File
        pub at_rest : Rests (ledger_by a φ) s f
        pub name : f.name ≡ nm
        pub mode : f.mode ≡ zeros 2
        pub bytes : concat f.body ≡ sent ++ zeros (rest (length sent))
        pub recs : f.recs ≡ counted 1 ((length sent + 251) / 252)

      quiet-now : (m : ℕ) → m < 8 → writes (get_or (set a.blocks n closed) m closed) ≢ suc s
      quiet-now m hm q = go (ℕ_discrete m n)
        where
          go : Dec (m ≡ n) → ⊥
          go (yes e) =
              omega (arith, q, ap writes (ap (λ (k : ℕ). get_or (set a.blocks n closed) k closed) e ∙ get_or-set_same a.blocks n closed closed (omega (arith, g.agrees.nb))))
          go (no e) =
              let y : writes (get_or a.blocks m closed) ≡ suc s = ap writes (sym (get_or-set_other a.blocks n m closed closed e)) ∙ q in
              nobody M S z x.img x.tab a g.agrees n hn s w.left w.writer m hm e (sym (writes-opens (get_or a.blocks m closed) (omega (arith, y))) ∙ y)

      shut-fate : Shut (shut_block M S a n (asks a n b) (writing s w.left))
      shut-fate = go (ℕ_discrete (length w.left) 0)
        where
          alive : live (file a s).name 0 ≡ true
          alive = wr.alive

          low : s < length a.slots
          low = omega (arith, g.agrees.ns, wr.slot)

          go : Dec (length w.left ≡ 0) → Shut (shut_block M S a n (asks a n b) (writing s w.left))
          go (yes e) =
              let y = sectors-whole (length sent) (length (file a s).secs) (w.whole e) in
              rw (ne_eqb (length (file a s).secs) 0 (omega (arith, has-secs)), eq-eqb (length w.left) 0 e)
              (record {
                f = file a s;
                at_rest = record { is = refl; low = low; alive = alive; quiet = quiet-now };
                name = w.name;
                mode = w.mode;
                recs = w.recs ∙ ap (counted 1) (sym y.0);
                bytes = sym (content-none (file a s).body w.left e) ∙ w.bytes ∙ sym (ap (λ (k : ℕ). sent ++ zeros k) y.1 ∙ ap (λ (l : List ℕ). sent ++ l) zeros-none ∙ append-nil sent);
              })
          go (no e) =
              let h : 1 ≤ length w.left = omega arith in
              let y = sectors-part (length sent) (length (file a s).secs) (length w.left) (w.part h) h wr.short in
              let nf = with_last (file a s) (pad_to 252 w.left) in
              rw (ne_eqb (length (file a s).secs) 0 (omega (arith, has-secs)), ne_eqb (length w.left) 0 e)
              (record {
                f = nf;
                at_rest = record {
                  is = get_or-set_same a.slots s nf no_file low;
                  low = omega (arith, low, length-set a.slots s nf);
                  alive = alive;
                  quiet = quiet-now;
                };
                name = w.name;
                mode = w.mode;
                recs = w.recs ∙ ap (counted 1) (sym y.0);
                bytes = concat-last (file a s).body (pad_to 252 w.left) (omega (arith, body-length, has-secs))
                    ∙ ap (λ (l : List ℕ). concat (front (file a s).body) ++ l) (pad-is 252 w.left (omega (arith, wr.short)))
                    ∙ sym (append_assoc (concat (front (file a s).body)) w.left (zeros (252 - length w.left)))
                    ∙ ap₂ (λ (l : List ℕ) (k : ℕ). l ++ zeros k) (sym (content-some (file a s).body w.left h) ∙ w.bytes) (sym y.1);
              })

      pub kept : legal nm 0 ≡ true → Kept flex M S (next flex x (asking n b)) (then M S a (entry flex x (asking n b))) s nm sent
      kept ok =
          let x1 = next flex x (asking n b) in
          let h1 = then M S a (entry flex x (asking n b)) in
          let g1 = (step M S z x a g (asking n b)).fine (plain_code M S x a n b 4 k.function refl) in
          let sh = shut-fate in
          let l = like-by x a g n b hn _ close-fate in
          let r1 = rests-like (ledger_by a (shut_block M S a n (asks a n b) (writing s w.left))) h1 l s sh.f sh.at_rest in
          record {
            numbers = λ cs pl sv.
                let ss = scenes M S h1 (log flex x1 cs) in
                let rs = rests M S z cs x1 h1 g1 s sh.f r1 pl (subst (λ (y : List ℕ). Survives ending y ss) (sym sh.name) sv) in
                let g2 = (always M S z cs x1 h1 g1 pl).0 in
                sym (g2.agrees.holds s (omega (arith, rs.low, g2.agrees.ns))).recs ∙ ap (λ (f : File). f.recs) rs.is ∙ sh.recs;
            back = λ cs pl sv m c ka i e.
                let ss = scenes M S h1 (log flex x1 cs) in
                let nm' = name_then nm ss in
                let fn : name_then sh.f.name ss ≡ nm' = ap (λ (y : List ℕ). name_then y ss) sh.name in
                let rs = rests M S z cs x1 h1 g1 s sh.f r1 pl (subst (λ (y : List ℕ). Survives ending y ss) (sym sh.name) sv) in
                let rs2 : Rests (history M S h1 (log flex x1 cs)) s (with_name sh.f nm') =
                subst (λ (y : List ℕ). Rests (history M S h1 (log flex x1 cs)) s (with_name sh.f y)) fn rs in
                subst (λ (l : List ℕ). ReadBack flex M S (run flex x1 cs) (history M S h1 (log flex x1 cs)) l m c) sh.bytes
                (read_back (run flex x1 cs) (history M S h1 (log flex x1 cs)) (always M S z cs x1 h1 g1 pl).0 s (with_name sh.f nm') rs2 (legal-then cs x1 h1 g1 pl nm ok) sh.mode m c ka i e);
          }

  -- ---- a new file: the call is granted the ledger a', where block n writes the slot s
  module _ (x : Machine) (a : Ledger) (g : Fine M S x a) (n s b : ℕ) (k : Asks a n 2) (i : Idle a n) (ok : legal (name_of a n) 0 ≡ true)
      (a' : Ledger) (ps : List Put) (made : called M S a n (asks a n b) ≡ granted 0 a' ps) (starts : Wrote a' n s (name_of a n) []) where
    abbrev a2 : Ledger
    a2 = then M S a (entry flex x (asking n b))

    -- its sectors are those of what was sent
    module _ (y : Machine) (h : Ledger) (g2 : Fine M S y h) (sent : List ℕ) (w : Wrote h n s (name_of a n) sent) where
      wrt : Writing S (slots_of h.dir) y.tab n (file h s) s w.left
      wrt = subst (λ (v : Block). Keeps S (slots_of h.dir) y.tab n h.slots v) w.writer (g2.agrees.keeps n k.block)

      count : Dec (length w.left ≡ 0) → (length sent + 251) / 252 ≡ length (file h s).secs
      count (yes q) = (sectors-whole (length sent) (length (file h s).secs) (w.whole q)).0
      count (no q) =
          (sectors-part (length sent) (length (file h s).secs) (length w.left) (w.part (omega arith)) (omega arith) wrt.short).0

      size_is : size_at y.img (get_or (slots_of h.dir) s 0) ≡ (length sent + 251) / 252
      size_is =
          let c = (g2.agrees.holds s wrt.slot).chain wrt.alive in
          let e : word_at y.img (get_or (slots_of h.dir) s 0 + 17) ≡ length (file h s).secs = ap (word_at y.img) (omega arith) ∙ c.size in
          e ∙ sym (count (ℕ_discrete (length w.left) 0))

      records-are : pieces 2 2 y.img (file h s).secs ≡ counted 1 ((length sent + 251) / 252)
      records-are = sym (g2.agrees.holds s wrt.slot).recs ∙ w.recs ∙ ap (counted 1) (sym (count (ℕ_discrete (length w.left) 0)))

    pub created : Created flex M S x a n s b
    created =
        let x1 = next flex x (asking n b) in
        let g1 = (step M S z x a g (asking n b)).fine (plain_code M S x a n b 2 k.function refl) in
        let l = like-by x a g n b k.block _ made in
        let w0 : Wrote a2 n s (name_of a n) [] = wrote-like a' a2 l n s (name_of a n) [] starts in
        let hs : s < length (slots_of a2.dir) = (wrt x1 a2 g1 [] w0).slot in
        let at : (file a2 s).at ≡ get_or (slots_of a2.dir) s 0 = (g1.agrees.holds s hs).at in
        record {
          opens = answer-by x a g n b k.block _ made;
          writes = λ cs pl op.
              let wn = written M S z cs x1 a2 g1 n s (name_of a n) [] k.block w0 pl op in
              let g2 = (always M S z cs x1 a2 g1 pl).0 in
              let x2 = run flex x1 cs in
              let h2 = history M S a2 (log flex x1 cs) in
              let sent = sent_by n (scenes M S a2 (log flex x1 cs)) in
              let stood = (slot-stood S a2 h2 (history-onward M S z cs x1 a2 g1 pl) s hs).1 in
              record {
                accepts = wn.1;
                size = ap (size_at x2.img) (at ∙ sym stood) ∙ size_is x2 h2 g2 sent wn.0;
                records = records-are x2 h2 g2 sent wn.0;
                closes = λ c ka. close-accepted x2 h2 g2 n s (name_of a n) sent k.block wn.0 c ka;
                kept = λ c ka some. kept x2 h2 g2 n s (name_of a n) sent k.block wn.0 c ka some ok;
              };
        }

  fits-two : (act : ℕ) → idle act ≡ true → fits 2 act ≡ true
  unfolding fits within
  fits-two act h = h

  -- a block that writes the new file in slot s has sent nothing yet
  starts-new : (a : Ledger) (n s o : ℕ) (nm date : List ℕ) → block a n ≡ writing s [] → file a s ≡ new_file o nm date → Wrote a n s nm []
  unfolding content counted
  starts-new a n s o nm date w sf = record {
    left = [];
    writer = w;
    name = ap (λ (y : File). y.name) sf;
    mode = ap (λ (y : File). y.mode) sf;
    bytes = ap (λ (y : File). content y.body []) sf;
    whole = λ y. sym (ap (λ (y : File). 252 * length y.secs) sf);
    part = λ y. absurd (omega arith);
    recs = ap (λ (y : File). y.recs) sf ∙ ap (λ (y : File). counted 1 (length y.secs)) (sym sf);
  }

  module _ (x : Machine) (a : Ledger) (g : Fine M S x a) (n b : ℕ) (k : Asks a n 2) (i : Idle a n) (ok : legal (name_of a n) 0 ≡ true)
      (none : file_named (name_of a n) a.slots ≡ nowhere) where
    abbrev q : Request
    q = asks a n b

    hb : n < length a.blocks
    hb = omega (arith, g.agrees.nb, k.block)

    -- in a vacant slot
    in_slot : (s : ℕ) → vacant_slot a.slots ≡ slot s → Created flex M S x a n s b
    unfolding performed served within opened_to_write
    in_slot s space =
        let nf = new_file (file a s).at (name_of a n) q.date in
        created x a g n s b k i ok (set_file a s nf n (writing s [])) (puts_opened S 2 nf.at (entry_of nf))
        (called_of M S a n q 2 k.function refl k.drive (fits-two (activity (block a n)) i) ∙ (rw (k.function, ok, none, space) refl))
        (starts-new (set_file a s nf n (writing s [])) n s (file a s).at (name_of a n) q.date (get_or-set_same a.blocks n (writing s []) closed hb)
        (get_or-set_same a.slots s nf no_file (seek_found (λ y. vacant y 0) a.slots s space).low))

    -- in a sector that the directory gets
    in_sector : (j : ℕ) (fr : List ℕ) → a.free ≡ j ∷ fr → vacant_slot a.slots ≡ nowhere → Created flex M S x a n (length a.slots) b
    unfolding performed served within opened_to_write
    in_sector j fr ef space =
        let nf = new_file (first_slot_of j) (name_of a n) q.date in
        let us = unused_slots (first_slot_of j + 24) 9 in
        let s = length a.slots in
        created x a g n s b k i ok (add_sector a j fr nf n (writing s [])) (puts_opened S 2 nf.at (entry_of nf))
        (called_of M S a n q 2 k.function refl k.drive (fits-two (activity (block a n)) i) ∙ (rw (k.function, ok, none, space, ef) refl))
        (starts-new (add_sector a j fr nf n (writing s [])) n s (first_slot_of j) (name_of a n) q.date (get_or-set_same a.blocks n (writing s []) closed hb)
        (ap (λ (m : ℕ). get_or (a.slots ++ nf ∷ us) m no_file) (let e : s ≡ s + 0 = omega arith in e) ∙ get_or-append-add a.slots (nf ∷ us) 0 no_file))

    pub creates-new : (s : ℕ) → slot_for_new a ≡ slot s → Created flex M S x a n s b
    creates-new s e = go (vacant_slot a.slots) refl a.free refl e
      where
        go : (v : Sought) → vacant_slot a.slots ≡ v → (fr : List ℕ) → a.free ≡ fr
            → on_sought v (pick (eqb (length fr) 0) nowhere (slot (length a.slots))) (λ t. slot t) ≡ slot s → Created flex M S x a n s b
        go (slot t) d fr ef e = subst (λ (m : ℕ). Created flex M S x a n m b) (slot_same t s e) (in_slot t d)
        go nowhere d [] ef e = absurd (slot-not s (sym e))
        go nowhere d (j ∷ fr) ef e =
            subst (λ (m : ℕ). Created flex M S x a n m b) (slot_same (length a.slots) s (rw (ne_eqb (suc (length fr)) 0 (omega arith)) at e)) (in_sector j fr ef d)

-- ---- the demand

module _ (x : Machine) (st : Start x) (cs : List Call) (pl : Plain (past flex x cs)) where
  pub fine : Fine (last_track_of x) (per_track_of x) (run flex x cs) (told flex x cs)
  fine = (always (last_track_of x) (per_track_of x) (start-shape x st) cs x (begun x) (start_fine x st) pl).0

  pub table_here : (run flex x cs).tab ≡ table_of (told flex x cs)
  table_here = table_is (run flex x cs).tab (told flex x cs).fcbs fine.formed fine.agrees.tlen

pub demand2 : Demand2 flex
demand2 x st cs pl = record {
  presets = λ n i v. ap (λ (t : List ℕ). flex.preset t n i v) (table_here x st cs pl);
  creates = λ n s b k i ok none space.
      creates-new (last_track_of x) (per_track_of x) (start-shape x st) (run flex x cs) (told flex x cs) (fine x st cs pl) n b k i ok none s space;
}
