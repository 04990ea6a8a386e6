-- What a block that reads gets, whatever other blocks do.
use Rattle.std.specs.Prelude.{◌≡◌, ◌≢◌, true, false, get_or, set, eqb, ltb}
use Rattle.std.proofs.Math.Path.{refl, ap, subst}
use Rattle.std.proofs.Common.{sym, ◌∙◌, arith, length-append, get_or-set_same, get_or-append-add}
use mathlib.Core.List.{List, [], ◌∷◌}
use Prim.Native.Nat.{ℕ, zero, suc, ◌+◌, ◌-◌, ◌*◌, ◌%◌, ◌≤◌, ◌<◌}
use Rattle.std.proofs.Math.Decide.{ℕ_discrete, dec_lt}
use Rattle.std.proofs.Math.ListN.{length, get_or-append, get_or-eq_default}
use borrow.Author.Tests.{eq-eqb, ne_eqb, lt-ltb, le-ltb}
use Rattle.rules.specs.Bytes.{pick, within, part}
use Rattle.rules.specs.Stores.{Put}
use Rattle.rules.specs.Call.{served, fits}
use Rattle.rules.specs.Directory.{slots_of, member}
use Rattle.laws.specs.Bytes.{length_part}
use Rattle.laws.specs.Addresses.{Shape}
use Rattle.chains.specs.Addresses.{absurd-bool}
use Rattle.chains.specs.Chain.{contents}
use Rattle.demands.specs.Ledger.{Call, setting, extending, asking, File, no_file, Block, closed, reading, Ledger, Request, asks, Fate, denied, granted, reply, gives, activity, block, file, set_block, loaded, transferred, rewound, performed, called}
use Rattle.met.specs.Relation.{opens, Reading, Keeps}
use Rattle.demands.specs.Service.{flex, Machine, answers, gave, next, entry, log}
use Rattle.demands.specs.History.{then, scenes, calls, concat, had, Plain, Only, read_to, Reads}
use Rattle.met.specs.Meets.{ledger_by}
use Rattle.met.proofs.Runs.{scene_of, Fine, Likewise, asks-is, asked, likewise-set, likewise-extend, likewise-refused, likewise-asked, step}
use Rattle.met.proofs.Sent.{called_of, called-zero, fits_one, Untouched, untouched, other-call}

-- ---- the bytes of sectors, one after another

pub concat-length : (m l : List ℕ) → length (concat (contents m l)) ≡ 252 * length l
concat-length m [] = refl
concat-length m (k ∷ l) =
    omega (arith, length-append (part m (256 * k + 4) 252) (concat (contents m l)), length_part m (256 * k + 4) 252, concat-length m l)

concat-at : (m l : List ℕ) (j i p : ℕ) → j < length l → i < 252 → 252 * j + i ≡ p
    → get_or (concat (contents m l)) p 0 ≡ get_or (get_or (contents m l) j []) i 0
concat-at m [] j i p h b e = absurd (omega arith)
concat-at m (k ∷ l) zero i p h b e =
    ap (λ (q : ℕ). get_or (concat (contents m (k ∷ l))) q 0) (omega arith)
    ∙ get_or-append (part m (256 * k + 4) 252) (concat (contents m l)) 0 i (omega (arith, length_part m (256 * k + 4) 252))
concat-at m (k ∷ l) (suc j) i p h b e =
    ap (λ (q : ℕ). get_or (concat (contents m (k ∷ l))) q 0) (omega (arith, length_part m (256 * k + 4) 252))
    ∙ get_or-append-add (part m (256 * k + 4) 252) (concat (contents m l)) (252 * j + i) 0
    ∙ concat-at m l j i (252 * j + i) (omega arith) b refl

-- ---- where a block that reads is

-- block n reads slot s, whose bytes are c, and has had p of them
pub record At (a : Ledger) (n s p : ℕ) (c : List ℕ) : Type 0 where
  pub j : ℕ
  pub i : ℕ
  pub reader : block a n ≡ reading s j i
  pub pos : p ≡ had j i
  pub bytes : concat (file a s).body ≡ c

pub at-start : (a : Ledger) (n s : ℕ) (c : List ℕ) → block a n ≡ reading s 0 0 → concat (file a s).body ≡ c → At a n s 0 c
unfolding had
at-start a n s c e b = record { j = 0; i = 0; reader = e; pos = refl; bytes = b }

-- the next byte, or the end
pub data Fetched (a : Ledger) (n s p : ℕ) (c : List ℕ) : Fate → Type 0 where
  byte : (v : ℕ) (a' : Ledger) (ps : List Put) → p < length c → v ≡ get_or c p 0 → At a' n s (p + 1) c → Fetched a n s p c (granted v a' ps)
  over : length c ≤ p → Fetched a n s p c (denied 8)

module _ (M S : ℕ) (z : Shape M S) where
  module _ (x : Machine) (a : Ledger) (g : Fine M S x a) (n s p : ℕ) (c : List ℕ) (hn : n < 8) (t : At a n s p c) (q : Request) where
    w : Reading S (slots_of a.dir) x.tab n (file a s) s t.j t.i
    w = subst (λ (b : Block). Keeps S (slots_of a.dir) x.tab n a.slots b) t.reader (g.agrees.keeps n hn)

    bd : (file a s).body ≡ contents x.img (file a s).secs
    bd = (g.agrees.holds s w.slot).body

    len : length c ≡ 252 * length (file a s).secs
    len = ap length (sym t.bytes) ∙ ap (λ (y : List (List ℕ)). length (concat y)) bd ∙ concat-length x.img (file a s).secs

    byte_at : (j i p : ℕ) → j < length (file a s).secs → i < 252 → 252 * j + i ≡ p → get_or (get_or (file a s).body j []) i 0 ≡ get_or c p 0
    byte_at j i p h b e =
        subst (λ (y : List (List ℕ)). get_or (get_or y j []) i 0 ≡ get_or (concat y) p 0) (sym bd) (sym (concat-at x.img (file a s).secs j i p h b e))
        ∙ ap (λ (y : List ℕ). get_or y p 0) t.bytes

    set_b : (b : Block) → get_or (set a.blocks n b) n closed ≡ b
    set_b b = get_or-set_same a.blocks n b closed (omega (arith, g.agrees.nb))

    pub fetched : Fetched a n s p c (transferred M S a n q (reading s t.j t.i))
    unfolding had
    fetched = go (ℕ_discrete t.i 0)
      where
        -- at the end of a sector
        next-sector : p ≡ 252 * t.j → Dec (t.j < length (file a s).secs)
            → Fetched a n s p c (pick (ltb t.j (length (file a s).secs)) (granted (get_or (get_or (file a s).body t.j []) 0 0) (set_block a n (reading s (suc t.j) 5)) (loaded S (file a s) t.j)) (denied 8))
        next-sector pp (yes h) =
            rw (lt-ltb t.j (length (file a s).secs) h)
            (byte (get_or (get_or (file a s).body t.j []) 0 0) (set_block a n (reading s (suc t.j) 5)) _ (omega (arith, len, pp, h)) (byte_at t.j 0 p h (omega arith) (omega (arith, pp)))
            (record { j = suc t.j; i = 5; reader = set_b (reading s (suc t.j) 5); pos = omega (arith, pp); bytes = t.bytes }))
        next-sector pp (no h) = rw (le-ltb t.j (length (file a s).secs) (omega arith)) (over (omega (arith, len, pp, h)))

        turn-pos : Dec (t.i ≡ 255) → p ≡ 252 * (t.j - 1) + (t.i - 4) → (5 ≤ t.i) × (t.i < 256) × (1 ≤ t.j)
            → p + 1 ≡ pick (eqb ((t.i + 1) % 256) 0) (252 * t.j) (252 * (t.j - 1) + ((t.i + 1) % 256 - 4))
        turn-pos (yes y) pp wi = rw (eq-eqb ((t.i + 1) % 256) 0 (omega arith)) (omega (arith, pp, wi))
        turn-pos (no y) pp wi = rw (ne_eqb ((t.i + 1) % 256) 0 (omega (arith, wi))) (omega (arith, pp, wi))

        go : Dec (t.i ≡ 0) → Fetched a n s p c (transferred M S a n q (reading s t.j t.i))
        go (yes e) =
            let pp : p ≡ 252 * t.j = t.pos ∙ (rw (eq-eqb t.i 0 e)) in
            rw (eq-eqb t.i 0 e) (next-sector pp (dec_lt t.j (length (file a s).secs)))
        go (no e) =
            let wi = w.within (omega arith) in
            let ld = w.loaded in
            let pp : p ≡ 252 * (t.j - 1) + (t.i - 4) = t.pos ∙ (rw (ne_eqb t.i 0 e)) in
            rw (ne_eqb t.i 0 e)
            (byte (get_or (get_or (file a s).body (t.j - 1) []) (t.i - 4) 0) (set_block a n (reading s t.j ((t.i + 1) % 256))) _ (omega (arith, len, pp, wi, ld))
            (byte_at (t.j - 1) (t.i - 4) p (omega (arith, wi, ld)) (omega (arith, wi)) (omega (arith, pp)))
            (record { j = t.j; i = (t.i + 1) % 256; reader = set_b (reading s t.j ((t.i + 1) % 256)); pos = turn-pos (ℕ_discrete t.i 255) pp wi; bytes = t.bytes }))

  -- ---- over the log

  -- one of the two functions that are allowed
  one_of : (code : ℕ) → member code (0 ∷ 5 ∷ []) ≡ true → code ≢ 0 → code ≡ 5
  unfolding member
  one_of code h ne = go (ℕ_discrete code 5)
    where
      go : Dec (code ≡ 5) → code ≡ 5
      go (yes e) = e
      go (no e) = absurd-bool h (rw (ne_eqb 0 code (λ x. ne (sym x)), ne_eqb 5 code (λ x. e (sym x))) refl)

  at-like : (a a' : Ledger) → Likewise a a' → (n s p : ℕ) (l : List ℕ) → At a n s p l → At a' n s p l
  at-like a a' k n s p l t = record {
    j = t.j;
    i = t.i;
    reader = ap (λ (bs : List Block). get_or bs n closed) k.blocks ∙ t.reader;
    pos = t.pos;
    bytes = ap (λ (fs : List File). concat (get_or fs s no_file).body) k.slots ∙ t.bytes;
  }

  module _ (x : Machine) (a : Ledger) (g : Fine M S x a) (n s p : ℕ) (l : List ℕ) (hn : n < 8) (t : At a n s p l) where
    -- what the call leaves, and what it is answered, where it is one of block n
    abbrev Now : Call → Type 0
    Now c = At (then M S a (entry flex x c)) n s (read_to n p l (scene_of M S x a c)) l
        × (calls n 0 (scene_of M S x a c) ≡ true → (answers flex x c ≡ pick (ltb p (length l)) 0 8) × (gave flex x c ≡ get_or l p 0))
        × (calls n 5 (scene_of M S x a c) ≡ true → answers flex x c ≡ 0)

    kept_by : (a' : Ledger) → Untouched a a' n s → At a' n s p l
    kept_by a' u =
        record { j = t.j; i = t.i; reader = u.same_block ∙ t.reader; pos = t.pos; bytes = ap (λ (y : File). concat y.body) u.same_file ∙ t.bytes }

    other : (m b : ℕ) → m ≢ n → Now (asking m b)
    other m b ne =
        rw (ne_eqb m n ne)
        (kept_by (then M S a (entry flex x (asking m b))) (other-call M S z x a g m b n s hn ne (ap opens t.reader)), (λ q. absurd-bool q refl), λ q. absurd-bool q refl)

    rd : Reading S (slots_of a.dir) x.tab n (file a s) s t.j t.i
    rd = subst (λ (y : Block). Keeps S (slots_of a.dir) x.tab n a.slots y) t.reader (g.agrees.keeps n hn)

    dr : (b : ℕ) → (asks a n b).drive ≡ 0
    dr b = ap (λ (y : Request). y.drive) (sym (asks-is M S z x a g n b hn)) ∙ rd.drive

    -- its own, a byte
    own-byte : (b : ℕ) → (asks a n b).code ≡ 0 → Now (asking n b)
    own-byte b k =
        let φ : called M S a n (asks a n b) ≡ transferred M S a n (asks a n b) (reading s t.j t.i) =
        called-zero M S a n (asks a n b) (reading s t.j t.i) k (dr b) t.reader fits_one in
        let st = asked M S z x a g n b hn in
        rw (eq-eqb n n refl, k)
        (by (called M S a n (asks a n b)) st.ans st.byte (likewise-asked M S x a n b st)
        (subst (Fetched a n s p l) (sym φ) (fetched x a g n s p l hn t (asks a n b))))
      where
        by : (φ : Fate) → answers flex x (asking n b) ≡ reply φ → gave flex x (asking n b) ≡ gives φ → Likewise (ledger_by a φ) (then M S a (entry flex x (asking n b)))
            → Fetched a n s p l φ
            → At (then M S a (entry flex x (asking n b))) n s (pick (ltb p (length l)) (p + 1) p) l
            × (true ≡ true → (answers flex x (asking n b) ≡ pick (ltb p (length l)) 0 8) × (gave flex x (asking n b) ≡ get_or l p 0))
            × (false ≡ true → answers flex x (asking n b) ≡ 0)
        by φ an gv lk (byte v a' ps h k u) =
            rw (lt-ltb p (length l) h) (at-like a' (then M S a (entry flex x (asking n b))) lk n s (p + 1) l u, (λ r. (an, gv ∙ k)), λ r. an)
        by φ an gv lk (over h) =
            rw (le-ltb p (length l) h) (at-like a (then M S a (entry flex x (asking n b))) lk n s p l t, (λ r. (an, gv ∙ sym (get_or-eq_default l 0 h))), λ r. absurd-bool r refl)

    -- its own, a rewind
    fits-five : fits 5 1 ≡ true
    unfolding fits
    fits-five = refl

    own-rewind : (b : ℕ) → (asks a n b).code ≡ 5 → Now (asking n b)
    unfolding performed served within
    own-rewind b k =
        let φ : called M S a n (asks a n b) ≡ rewound M S a n (asks a n b) (reading s t.j t.i) =
        called_of M S a n (asks a n b) 5 k refl (dr b) (ap (λ (y : Block). fits 5 (activity y)) t.reader ∙ fits-five)
        ∙ (rw (k, t.reader) refl) in
        let st = asked M S z x a g n b hn in
        let an : answers flex x (asking n b) ≡ 0 = st.ans ∙ ap reply φ in
        let lk = subst (λ (ψ : Fate). Likewise (ledger_by a ψ) (then M S a (entry flex x (asking n b)))) φ (likewise-asked M S x a n b st) in
        rw (eq-eqb n n refl, k) (
          at-like (set_block a n (reading s 0 0)) (then M S a (entry flex x (asking n b))) lk n s 0 l
              (at-start (set_block a n (reading s 0 0)) n s l (get_or-set_same a.blocks n (reading s 0 0) closed (omega (arith, g.agrees.nb))) t.bytes),
          (λ r. absurd-bool r refl),
          λ r. an,
        )

    -- its own, refused
    own-refused : (b : ℕ) → (asks a n b).code ≢ 0 → (asks a n b).code ≢ 5 → answers flex x (asking n b) ≢ 0 → Now (asking n b)
    unfolding entry
    own-refused b c0 c5 q =
        rw (eq-eqb n n refl, ne_eqb (asks a n b).code 0 c0, ne_eqb (asks a n b).code 5 c5) (
          kept_by (then M S a (entry flex x (asking n b))) (untouched a (then M S a (entry flex x (asking n b))) n s (likewise-refused M S a n b _ _ q)),
          (λ r. absurd-bool r refl),
          λ r. absurd-bool r refl,
        )

    read_one : (c : Call) → Only n (0 ∷ 5 ∷ []) (scene_of M S x a c ∷ []) → Now c
    unfolding entry
    read_one (setting m i v) op =
        (kept_by (then M S a (entry flex x (setting m i v))) (untouched a (then M S a (entry flex x (setting m i v))) n s (likewise-set M S a m i v _ _)), (λ q. absurd-bool q refl), λ q. absurd-bool q refl)
    read_one (extending m c) op =
        (kept_by (then M S a (entry flex x (extending m c))) (untouched a (then M S a (entry flex x (extending m c))) n s (likewise-extend M S a m c _ _)), (λ q. absurd-bool q refl), λ q. absurd-bool q refl)
    read_one (asking m b) op = go (ℕ_discrete m n)
      where
        own : Only n (0 ∷ 5 ∷ []) (scene_of M S x a (asking n b) ∷ []) → Dec ((asks a n b).code ≡ 0) → Dec ((asks a n b).code ≡ 5) → Dec (answers flex x (asking n b) ≡ 0)
            → Now (asking n b)
        own op (yes c) e q = own-byte b c
        own op (no c) (yes e) q = own-rewind b e
        own op (no c) (no e) (yes q) = absurd (e (one_of (asks a n b).code (rw (eq-eqb n n refl) at (op.0 q)) c))
        own op (no c) (no e) (no q) = own-refused b c e q

        go : Dec (m ≡ n) → Now (asking m b)
        go (yes e) =
            subst (λ (k : ℕ). Only n (0 ∷ 5 ∷ []) (scene_of M S x a (asking k b) ∷ []) → Now (asking k b)) (sym e)
            (λ op. own op (ℕ_discrete (asks a n b).code 0) (ℕ_discrete (asks a n b).code 5) (ℕ_discrete (answers flex x (asking n b)) 0)) op
        go (no e) = other m b e

  -- READING: whatever else is called, the bytes come in order, and then 8; after a rewind from the first on
  pub reads : (cs : List Call) (x : Machine) (a : Ledger) → Fine M S x a → (n s p : ℕ) (l : List ℕ) → n < 8 → At a n s p l
      → Plain (scenes M S a (log flex x cs)) → Only n (0 ∷ 5 ∷ []) (scenes M S a (log flex x cs)) → Reads n p l (scenes M S a (log flex x cs))
  unfolding log scenes entry
  reads [] x a g n s p l hn t pl op = tt
  reads (c ∷ cs) x a g n s p l hn t pl op =
      let w = read_one x a g n s p l hn t c (op.0, tt) in
      (w.1, w.2, reads cs (next flex x c) (then M S a (entry flex x c)) ((step M S z x a g c).fine pl.0) n s (read_to n p l (scene_of M S x a c)) l hn w.0 pl.1 op.1)
