-- Stores into a slot alone: it is marked deleted.
use Rattle.std.specs.Prelude.{◌≡◌, refl, ◌≢◌, ℕ, zero, suc, ◌+◌, ◌*◌, ◌/◌, ◌%◌, ◌≤◌, ◌<◌, length, get_or, set}
use Rattle.std.proofs.Common.{sym, ◌∙◌, arith, length-set, get_or-set_same, get_or-set_other}
use Rattle.std.proofs.Math.Path.{ap, subst}
use mathlib.Core.List.{List, [], ◌∷◌}
use Rattle.rules.specs.Bytes.{one}
use Rattle.rules.specs.Stores.{Store, store, stored}
use Rattle.rules.specs.Directory.{slots_of}
use Rattle.laws.specs.Bytes.{part-is, part_at, part_same, length_part}
use Rattle.chains.specs.Tally.{tally}
use Rattle.laws.specs.Addresses.{Shape}
use Rattle.chains.specs.Addresses.{absurd-bool}
use Rattle.chains.specs.Chain.{Chain, pieces, pieces-same, chain_same}
use Rattle.chains.specs.Directory.{Spot, spot, spot-sector}
use Rattle.laws.specs.Stores.{stored-off, stored_at}
use Rattle.chains.specs.Frame.{Frame, in_slot}
use Rattle.chains.proofs.Frame.{framed}
use Rattle.demands.specs.Ledger.{File, no_file, Block, closed, Ledger, set_file, with_mark}
use Rattle.met.specs.Relation.{opens, writes, Holds, Keeps, Agrees, Turn, step}
use Rattle.met.specs.Sectors.{free_off}
use Rattle.met.specs.Searches.{marked-dead}

module _ (M S : ℕ) (z : Shape M S) (img tab : List ℕ) (a : Ledger) (r : Agrees M S img tab a) (s : ℕ) (hs : s < length (slots_of a.dir)) where
  abbrev f : File
  f = get_or a.slots s no_file

  abbrev o : ℕ
  o = get_or (slots_of a.dir) s 0

  w : Spot M S a.dir s o
  w = spot M S a.dir r.listing s hs

  -- a slot lies in the image, behind the information record
  pub slot-low : 1040 ≤ o
  slot-low = omega (arith, w.place, w.low)

  -- within one sector, which is the directory's
  pub slot_row : o % 256 + 24 ≤ 256
  slot_row = omega (arith, (spot-sector M S a.dir s o w).1, w.row)

  pub slot_apart : (k : ℕ) → tally k a.dir ≡ 0 → k ≢ o / 256
  slot_apart k t e =
      let q : k ≡ w.k = e ∙ (spot-sector M S a.dir s o w).0 in
      omega (arith, t, w.inside, ap (λ (x : ℕ). tally x a.dir) q)

  pub slot-in : o + 24 ≤ length img
  slot-in = omega (arith, w.place, w.high, w.row, r.shaped.size)

  pub length-name : length f.name ≡ 11
  length-name = ap length (sym (r.holds s hs).name) ∙ length_part img o 11

  -- ---- stores into the slot alone
  module _ (i : ℕ) (vs : List ℕ) (lv : i + length vs ≤ 24) where
    abbrev ws : List Store
    ws = store (o / 256) (o % 256 + i) vs ∷ []

    pub slot-off : (p : ℕ) → (o + i ≤ p → p < o + i + length vs → ⊥) → get_or (stored img ws) p 0 ≡ get_or img p 0
    slot-off p h = stored-off ws img p ((λ u v. h (omega arith) (omega arith)), tt)

    pub slot_at : (j p : ℕ) → j < length vs → o + i + j ≡ p → get_or (stored img ws) p 0 ≡ get_or vs j 0
    slot_at j p h e = stored_at ws img 0 j p (omega arith) h (omega arith) (omega (arith, slot-in)) tt

    pub slot-frame : Frame S a.dir img (stored img ws) [] s
    slot-frame = framed M S z.sectors a.dir r.listing s hs img [] ws (in_slot (o / 256) (o % 256 + i) vs (omega arith) (omega arith), tt)

    pub slot-free : Chain S (stored img ws) 541 a.free
    slot-free =
        chain_same S img (stored img ws) a.free 541 (λ j h. slot-off (541 + j) (λ u v. omega (arith, slot-low)))
        (λ j i h c. slot-off (256 * j + i) (λ u v. omega (arith, slot_apart j (free_off M S z img tab a r j h), slot_row))) r.free

    pub slot-spare : a.spare ≡ pieces 2 254 (stored img ws) a.free
    slot-spare =
        r.spare
        ∙ sym (pieces-same 2 254 img (stored img ws) a.free (λ j i h b c. slot-off (256 * j + i) (λ u v. omega (arith, slot_apart j (free_off M S z img tab a r j h), slot_row))))

  -- ---- a slot whose first byte became 255
  pub mark-holds : (img' : List ℕ) → get_or img' o 0 ≡ 255 → ((i : ℕ) → 1 ≤ i → i < 24 → get_or img' (o + i) 0 ≡ get_or img (o + i) 0)
      → Holds S img' o (with_mark f)
  mark-holds img' m k =
      record {
        at = (r.holds s hs).at;
        name = part-is img' o 11 (set f.name 0 255) (length-set f.name 0 255 ∙ length-name) at;
        mode = part_same img img' (o + 11) (o + 11) 2 (λ i c. further (11 + i) (omega arith) (omega arith) (omega arith)) ∙ (r.holds s hs).mode;
        ends = part_same img img' (o + 13) (o + 13) 6 (λ i c. further (13 + i) (omega arith) (omega arith) (omega arith)) ∙ (r.holds s hs).ends;
        map = part_same img img' (o + 19) (o + 19) 1 (λ i c. further (19 + i) (omega arith) (omega arith) (omega arith)) ∙ (r.holds s hs).map;
        date = part_same img img' (o + 20) (o + 20) 4 (λ i c. further (20 + i) (omega arith) (omega arith) (omega arith)) ∙ (r.holds s hs).date;
        chain = λ v. absurd-bool v (marked-dead f.name (omega (arith, length-name)));
        dead = λ v. refl;
        recs = refl;
        body = refl;
      }
    where
      further : (i : ℕ) {p : ℕ} → 1 ≤ i → i < 24 → o + i ≡ p → get_or img' p 0 ≡ get_or img p 0
      further i {p} b c e = subst (λ (x : ℕ). get_or img' x 0 ≡ get_or img x 0) e (k i b c)

      at : (i : ℕ) → i < 11 → get_or img' (o + i) 0 ≡ get_or (set f.name 0 255) i 0
      at zero b = ap (λ (p : ℕ). get_or img' p 0) (omega arith) ∙ m ∙ sym (get_or-set_same f.name 0 255 0 (omega (arith, length-name)))
      at (suc i) b =
          k (suc i) (omega arith) (omega arith) ∙ sym (part_at img o 11 (suc i) b) ∙ ap (λ (x : List ℕ). get_or x (suc i) 0) (r.holds s hs).name
          ∙ sym (get_or-set_other f.name 0 (suc i) 255 0 (omega arith))

  -- a slot with no sectors is marked; block n, which alone may have it open, has nothing open afterwards
  pub mark-step : (n : ℕ) (tab' : List ℕ) (b : Block) → n < 8 → f.secs ≡ [] → Turn tab tab' n → opens b ≡ 0 → writes b ≡ 0
      → Keeps S (slots_of a.dir) tab' n (set a.slots s (with_mark f)) b
      → ((n' : ℕ) → n' < 8 → n' ≢ n → opens (get_or a.blocks n' closed) ≢ suc s)
      → Agrees M S (stored img (store (o / 256) (o % 256) (one 255) ∷ [])) tab' (set_file a s (with_mark f) n b)
  unfolding one
  mark-step n tab' b hn em t ob wb k q =
      subst (λ (x : ℕ). Agrees M S (stored img (store (o / 256) x (255 ∷ []) ∷ [])) tab' (set_file a s (with_mark f) n b)) (omega arith)
      (step M S z img tab a r (stored img (store (o / 256) (o % 256 + 0) (255 ∷ []) ∷ [])) tab' [] a.free a.spare n s (with_mark f) b hn hs
      (slot-frame 0 (255 ∷ []) (omega arith)) t (slot-free 0 (255 ∷ []) (omega arith)) (slot-spare 0 (255 ∷ []) (omega arith))
      (mark-holds (stored img (store (o / 256) (o % 256 + 0) (255 ∷ []) ∷ [])) (slot_at 0 (255 ∷ []) (omega arith) 0 o (omega arith) (omega arith))
      (λ i u v. slot-off 0 (255 ∷ []) (omega arith) (o + i) (λ x y. omega arith)))
      k (λ x h. absurd (omega arith)) (λ x. omega (arith, ap (tally x) em)) q (λ n' h e u. absurd (omega (arith, u, wb))) (λ n' h e u. absurd (omega (arith, u, ob))))
