-- A SECTOR THAT IS NOT FULL YET: while a block holds the first bytes of the last sector of the file that it writes, that sector has zeros.
use Rattle.std.specs.Prelude.{◌≡◌, refl, ◌≢◌, ℕ, ◌-◌, ◌≤◌, ◌<◌, length, get_or, set, eqb}
use Rattle.std.proofs.Common.{sym, ap, ◌∙◌, subst, arith, get_or-set_same, get_or-append-add}
use mathlib.Core.List.{List, [], ◌∷◌, ◌++◌}
use Rattle.std.proofs.Math.Decide.{ℕ_discrete, dec_lt}
use Rattle.std.proofs.lemmas.List.{get_or-replicate}
use Rattle.std.proofs.lemmas.Bool.{eqb-false}
use Rattle.rules.specs.Bytes.{zeros}
use Rattle.laws.specs.Addresses.{Shape}
use Rattle.laws.specs.Tests.{pick_all, pick-cases}
use Rattle.chains.specs.Snoc.{length-snoc}
use Rattle.demands.specs.Ledger.{Call, setting, extending, asking, File, no_file, Block, closed, listing, reading, writing, Ledger, file, block, Request, asks, Fate, denied, granted, with_new, with_last, with_mark, pad_to, taken, transferred, shut_block, called}
use Rattle.demands.specs.Diskette.{ledger_of}
use Rattle.demands.specs.Service.{flex, Machine, answers, next, entry, run, log}
use Rattle.demands.specs.History.{then, history, scenes, unfinished as held_by, Plain}
use Rattle.demands.specs.Demands.{last_track_of, per_track_of, Start, begun, told, past}
use Rattle.met.specs.Relation.{opens, writes}
use Rattle.met.specs.Meets.{ledger_by}
use Rattle.met.specs.Changes.{Change, still, turned, worked, dropped, made, grew, gone, retitled, Changes, changes, other_block, of-writer, own-live}
use Rattle.met.proofs.Runs.{Fine, Likewise, asked, beyond, likewise-set, likewise-extend, likewise-refused, likewise-asked, step, always, start-shape, start_fine}
use Rattle.met.specs.Fills.{w}
use Rattle.met.proofs.Sent.{open_kept}

-- ---- THE INVARIANT

abbrev last_in : List (List ℕ) → List ℕ
last_in ds = get_or ds (length ds - 1) []

last-new : (ds : List (List ℕ)) (d : List ℕ) → last_in (ds ++ d ∷ []) ≡ d
last-new ds d = ap (λ (i : ℕ). get_or (ds ++ d ∷ []) i []) (omega (arith, length-snoc ds d)) ∙ get_or-append-add ds (d ∷ []) 0 []

-- where a block as o holds bytes of a sector that is not full, that sector has zeros
abbrev BlankAt : List File → Block → Type 0
BlankAt fs o = (s : ℕ) (ub : List ℕ) → o ≡ writing s ub → 1 ≤ length ub → last_in (get_or fs s no_file).body ≡ zeros 252

abbrev Blank : Ledger → Type 0
Blank a = (m : ℕ) → m < 8 → BlankAt a.slots (block a m)

blank-like : (a a' : Ledger) → Likewise a a' → Blank a → Blank a'
blank-like a a' l bl m hm s ub e h =
    ap (λ (fs : List File). last_in (get_or fs s no_file).body) l.slots
    ∙ bl m hm s ub (ap (λ (bs : List Block). get_or bs m closed) (sym l.blocks) ∙ e) h

slot_of : (s t : ℕ) (ub u : List ℕ) → writing s ub ≡ writing t u → s ≡ t
slot_of s t ub u e = omega (arith, ap writes e)

module _ (M S : ℕ) (z : Shape M S) (x : Machine) (a : Ledger) (f : Fine M S x a) (bl : Blank a) (n : ℕ) (hn : n < 8) (q : Request) where
  -- ---- one call: of its own block
  abbrev Own : Fate → Type 0
  Own (denied e) = Unit {0}
  Own (granted v a' ps) = BlankAt a'.slots (block a' n)

  here : (o : Block) → get_or (set a.blocks n o) n closed ≡ o
  here o = get_or-set_same a.blocks n o closed (omega (arith, f.agrees.nb))

  -- it holds no byte
  none-held : (fs : List File) (o : Block) → length (held_by o) ≡ 0 → BlankAt fs (get_or (set a.blocks n o) n closed)
  none-held fs o l s ub e h = absurd (omega (arith, l, h, ap (λ (p : Block). length (held_by p)) (sym (here o) ∙ e)))

  -- it writes: a new sector has zeros, another byte stays in the block
  module _ (s : ℕ) (ub : List ℕ) (w : block a n ≡ writing s ub) where
    first_byte : (fr : List ℕ) → Own (taken M S a n q s fr)
    first_byte [] = tt
    first_byte (k ∷ fr) = λ t u e h.
        let p : s ≡ t = slot_of s t (q.byte ∷ []) u (sym (here (writing s (q.byte ∷ []))) ∙ e) in
        let low = (own-live M S x.img x.tab a f.agrees n hn s ub w).0 in
        subst (λ (y : ℕ). last_in (get_or (set a.slots s (with_new S (file a s) k)) y no_file).body ≡ zeros 252) p
        (ap (λ (g : File). last_in g.body) (get_or-set_same a.slots s (with_new S (file a s) k) no_file low) ∙ last-new (file a s).body (zeros 252))

    next-byte : (b : ℕ) → 1 ≤ length ub → BlankAt a.slots (get_or (set a.blocks n (writing s (ub ++ b ∷ []))) n closed)
    next-byte b l t u e h =
        let p : s ≡ t = slot_of s t (ub ++ b ∷ []) u (sym (here (writing s (ub ++ b ∷ []))) ∙ e) in
        subst (λ (y : ℕ). last_in (file a y).body ≡ zeros 252) p (bl n hn s ub w l)

    sends-blank : Own (transferred M S a n q (writing s ub))
    sends-blank =
        pick-cases Own (eqb (length ub) 0) _ _ (λ h. first_byte a.free)
        (λ h. let ne : length ub ≢ 0 = eqb-false (length ub) 0 h in
        pick_all Own (eqb (length ub) 251) _ _ (none-held (set a.slots s (with_last (file a s) (pad_to 251 ub ++ q.byte ∷ []))) (writing s []) refl)
        (next-byte q.byte (omega arith)))

    shuts-blank : Own (shut_block M S a n q (writing s ub))
    shuts-blank =
        pick_all Own (eqb (length (file a s).secs) 0) _ _ (none-held (set a.slots s (with_mark (file a s))) closed refl)
        (pick_all Own (eqb (length ub) 0) _ _ (none-held a.slots closed refl) (none-held (set a.slots s (with_last (file a s) (pad_to 252 ub))) closed refl))

    own-writer : Own (called M S a n q)
    own-writer = of-writer M S a n q s ub w Own (λ e. tt) (λ c. sends-blank) (λ c. shuts-blank)

  -- it does not write: it holds nothing afterwards either
  own-other : writes (block a n) ≡ 0 → (a' : Ledger) → Change a n q a' → BlankAt a'.slots (block a' n)
  own-other w a' (still ne) = bl n hn
  own-other w a' (turned ne b st) = λ s ub e h. absurd (omega (arith, w, st s (ap writes (sym (here b) ∙ e))))
  own-other w a' (worked ne t u fr vs g b y v st fd) = absurd (omega (arith, w, ap writes y))
  own-other w a' (dropped ne t u y) = absurd (omega (arith, w, ap writes y))
  own-other w a' (made ne t y v u) = none-held a'.slots (writing t []) refl
  own-other w a' (grew ne k fr ef y) = none-held a'.slots (writing (length a.slots) []) refl
  own-other w a' (gone t y v by) = λ s ub e h. absurd (omega (arith, w, ap writes (sym (here (block a n)) ∙ e)))
  own-other w a' (retitled t y v by u k) = λ s ub e h. absurd (omega (arith, w, ap writes (sym (here (block a n)) ∙ e)))

  own-blank : Own (called M S a n q)
  own-blank = go (block a n) refl
    where
      by : writes (block a n) ≡ 0 → (φ : Fate) → Changes a n q φ → Own φ
      by w (denied e) c = tt
      by w (granted v a' ps) c = own-other w a' c

      go : (o : Block) → block a n ≡ o → Own (called M S a n q)
      go (writing s ub) e = own-writer s ub e
      go closed e = by (ap writes e) (called M S a n q) (changes M S a n q)
      go (listing p) e = by (ap writes e) (called M S a n q) (changes M S a n q)
      go (reading s j i) e = by (ap writes e) (called M S a n q) (changes M S a n q)

  -- ---- and of the others
  other-blank : (a' : Ledger) → Change a n q a' → (m : ℕ) → m < 8 → m ≢ n → BlankAt a'.slots (block a' m)
  other-blank a' c m hm ne s ub e h =
      let w : block a m ≡ writing s ub = sym (other_block a a' n q c m ne) ∙ e in
      ap (λ (g : File). last_in g.body) (open_kept M S z x a f n hn q a' c m s hm ne (ap opens w)).1 ∙ bl m hm s ub w h

  blank-after : Blank (ledger_by a (called M S a n q))
  blank-after = go (called M S a n q) own-blank (changes M S a n q)
    where
      go : (φ : Fate) → Own φ → Changes a n q φ → Blank (ledger_by a φ)
      go (denied e) w c = bl
      go (granted v a' ps) w c = λ m hm. by m hm (ℕ_discrete m n)
        where
          by : (m : ℕ) → m < 8 → Dec (m ≡ n) → BlankAt a'.slots (block a' m)
          by m hm (yes p) = subst (λ (k : ℕ). BlankAt a'.slots (block a' k)) (sym p) w
          by m hm (no p) = other-blank a' c m hm p

-- ---- after any calls

module _ (M S : ℕ) (z : Shape M S) where
  blank-then : (x : Machine) (a : Ledger) → Fine M S x a → Blank a → (c : Call) → Blank (then M S a (entry flex x c))
  unfolding entry
  blank-then x a f bl (setting n i v) = blank-like a _ (likewise-set M S a n i v _ _) bl
  blank-then x a f bl (extending n c) = blank-like a _ (likewise-extend M S a n c _ _) bl
  blank-then x a f bl (asking n b) = go (dec_lt n 8)
    where
      go : Dec (n < 8) → Blank (then M S a (entry flex x (asking n b)))
      go (yes h) =
          blank-like (ledger_by a (called M S a n (asks a n b))) _ (likewise-asked M S x a n b (asked M S z x a f n b h)) (blank-after M S z x a f bl n h (asks a n b))
      go (no h) =
          let q : answers flex x (asking n b) ≢ 0 = λ e. omega (arith, e, beyond M S z x a f n b (omega arith)) in
          blank-like a _ (likewise-refused M S a n b _ _ q) bl

  blank-always : (cs : List Call) (x : Machine) (a : Ledger) → Fine M S x a → Plain (scenes M S a (log flex x cs)) → Blank a → Blank (history M S a (log flex x cs))
  unfolding log history scenes entry
  blank-always [] x a f p bl = bl
  blank-always (c ∷ cs) x a f p bl =
      blank-always cs (next flex x c) (then M S a (entry flex x c)) ((step M S z x a f c).fine p.0) p.1 (blank-then x a f bl c)

-- a start has all blocks closed
start-blank : (x : Machine) → Blank (begun x)
unfolding ledger_of
start-blank x m hm s ub e h = absurd (omega (arith, ap writes (sym (get_or-replicate {A = Block} 8 m closed closed hm) ∙ e)))

pub unfinished : (x : Machine) → Start x → (cs : List Call) → Plain (past flex x cs) → (n s : ℕ) (ub : List ℕ) → n < 8 → block (told flex x cs) n ≡ writing s ub
    → 1 ≤ length ub → (length ub ≤ 251) × (get_or (file (told flex x cs) s).body (length (file (told flex x cs) s).body - 1) [] ≡ zeros 252)
unfinished x st cs p n s ub hn e h =
    let z = start-shape x st in
    let f = (always (last_track_of x) (per_track_of x) z cs x (begun x) (start_fine x st) p).0 in (
      omega (arith, (w (last_track_of x) (per_track_of x) z (run flex x cs).img (run flex x cs).tab (told flex x cs) f.agrees n hn s ub e).short),
      blank-always (last_track_of x) (per_track_of x) z cs x (begun x) (start_fine x st) p (start-blank x) n hn s ub e h,
    )
