-- From the kind of a call's stores to what is left where the call is cut short: of the stores in order, and of a copy that is written sector by sector.
use Rattle.std.specs.Prelude.{◌≡◌, refl, ◌≢◌, ◌⊎◌, List, [], ◌∷◌, ◌++◌, ℕ, ◌+◌, ◌*◌, ◌/◌, ◌≤◌, ◌<◌, length, take}
use Rattle.std.proofs.Common.{sym, ap, ◌∙◌, subst, inl, inr, arith, ext_get_or, take_all}
use Rattle.std.proofs.Math.Decide.{ℕ_discrete}
use Rattle.rules.specs.Bytes.{byte_at}
use Rattle.rules.specs.Stores.{Store, store, stored}
use Rattle.rules.specs.Directory.{chain_record}
use Rattle.laws.specs.Bytes.{part-byte}
use Rattle.laws.specs.Each.{Each, each_append, each-so}
use Rattle.laws.specs.Small.{Small, small-six}
use Rattle.laws.specs.Stores.{piece_of, Off, Inside, SmallStore, stores-each, stored-off, length-stored, small-stored}
use Rattle.laws.specs.Addresses.{Shape}
use Rattle.laws.proofs.Effects.{call-lawful}
use Rattle.chains.specs.Tally.{tally, tally-head}
use Rattle.demands.specs.Ledger.{Call, setting, extending, asking, Ledger}
use Rattle.demands.specs.Service.{flex, Machine, outcome, next, SendsByte}
use Rattle.demands.specs.Demands.{sectors_in}
use Rattle.demands.specs.Repairs.{SameSector}
use Rattle.demands.specs.Cuts.{in_order, stores_of}
use Rattle.met.specs.Relation.{Agrees}
use Rattle.met.proofs.Runs.{Fine}
use Rattle.cutting.specs.Kinds.{Matters, Intact, Harmless, ToDirectory, Staged}
use Rattle.cutting.specs.Harms.{sectors-are, free-harmless}

-- ---- images

pub intact-same : (S : ℕ) (a : Ledger) (img m : List ℕ) → Small img → m ≡ img → Intact S a img m
intact-same S a img m s e = record { long = ap length e; small = subst Small (sym e) s; same = λ p q. ap (λ (x : List ℕ). byte_at x p) e }

-- harmless stores leave what matters
pub harmless-intact : (S : ℕ) (a : Ledger) (img : List ℕ) (ss : List Store) → Small img → Each SmallStore ss → Each (Harmless S a) ss → Intact S a img (stored img ss)
harmless-intact S a img ss s t h = record {
  long = length-stored ss img;
  small = small-stored ss img s t;
  same = λ p q. stored-off ss img p (stores-each (Off p) ss (each-so (Harmless S a) (λ (x : Store). Off p (piece_of x)) ss (λ x f. f p q) h));
}

-- m has in each sector what one of two images has; these have, in all sectors but d, the same bytes of a kind
module _ (img img' m : List ℕ) (v : (k : ℕ) → SameSector k m img ⊎ SameSector k m img')
    (d : ℕ) (Q : ℕ → Type 0) (kept : (p : ℕ) → Q p → p / 256 ≢ d → byte_at img' p ≡ byte_at img p) where
  pub sector-byte : (c : List ℕ) (p : ℕ) → SameSector (p / 256) m c → byte_at m p ≡ byte_at c p
  sector-byte c p e = part-byte m c (256 * (p / 256)) 256 p e (omega arith) (omega arith)

  in-d : (c : List ℕ) (p : ℕ) → p / 256 ≡ d → SameSector d m c → byte_at m p ≡ byte_at c p
  in-d c p e s = sector-byte c p (subst (λ (k : ℕ). SameSector k m c) (sym e) s)

  small-mixed : Small img → Small img' → Small m
  small-mixed s s' = record { at = λ p. go p (v (p / 256)) }
    where
      go : (p : ℕ) → SameSector (p / 256) m img ⊎ SameSector (p / 256) m img' → byte_at m p < 256
      go p (inl e) = omega (arith, sector-byte img p e, s.at p)
      go p (inr e) = omega (arith, sector-byte img' p e, s'.at p)

  -- where d is as in the one, or as in the other, they all are
  all_old : SameSector d m img → (p : ℕ) → Q p → byte_at m p ≡ byte_at img p
  all_old e p q = go (ℕ_discrete (p / 256) d) (v (p / 256))
    where
      go : Dec (p / 256 ≡ d) → SameSector (p / 256) m img ⊎ SameSector (p / 256) m img' → byte_at m p ≡ byte_at img p
      go (yes h) w = in-d img p h e
      go (no h) (inl w) = sector-byte img p w
      go (no h) (inr w) = sector-byte img' p w ∙ kept p q h

  pub all_new : SameSector d m img' → (p : ℕ) → Q p → byte_at m p ≡ byte_at img' p
  all_new e p q = go (ℕ_discrete (p / 256) d) (v (p / 256))
    where
      go : Dec (p / 256 ≡ d) → SameSector (p / 256) m img ⊎ SameSector (p / 256) m img' → byte_at m p ≡ byte_at img' p
      go (yes h) w = in-d img' p h e
      go (no h) (inl w) = sector-byte img p w ∙ sym (kept p q h)
      go (no h) (inr w) = sector-byte img' p w

-- ---- stores that cover, of what matters, at most bytes of the sector d

abbrev Besides : ℕ → Ledger → ℕ → Store → Type 0
Besides S a d s = (p : ℕ) → Matters S a p → p / 256 ≢ d → Off p (piece_of s)

pub into-own : (n k i : ℕ) (vs : List ℕ) (p : ℕ) → Inside n (store k i vs) → p / 256 ≢ k → Off p (piece_of (store k i vs))
into-own n k i vs p h ne b e = ne (omega (arith, h.0))

pub besides-kept : (S : ℕ) (a : Ledger) (img : List ℕ) (d : ℕ) (ss : List Store) → Each (Besides S a d) ss → (p : ℕ) → Matters S a p → p / 256 ≢ d
    → byte_at (stored img ss) p ≡ byte_at img p
besides-kept S a img d ss h p q ne =
    stored-off ss img p (stores-each (Off p) ss (each-so (Besides S a d) (λ (x : Store). Off p (piece_of x)) ss (λ x f. f p q ne) h))

-- the one sector of the directory that a call stores into
pub record Into (S : ℕ) (a : Ledger) (ss : List Store) : Type 0 where
  pub sector : ℕ
  pub listed : 1 ≤ tally sector a.dir
  pub besides : Each (Besides S a sector) ss

pub into-last : (S : ℕ) (a : Ledger) (n : ℕ) (ss : List Store) (s : Store) → Each (Harmless S a) ss → ToDirectory a s → Inside n s → Into S a (ss ++ s ∷ [])
into-last S a n ss (store k i vs) h t b = record {
  sector = k;
  listed = t;
  besides = each_append (Besides S a k) ss (store k i vs ∷ []) (each-so (Harmless S a) (Besides S a k) ss (λ x f p q ne. f p q) h) ((λ p q ne. into-own n k i vs p b ne), tt);
}

-- ---- what is left

module _ (M S : ℕ) (z : Shape M S) (img tab : List ℕ) (a : Ledger) (r : Agrees M S img tab a) (small : Small img) where
  pub record-small : (fr : List ℕ) → SmallStore (store 2 29 (chain_record S fr))
  unfolding chain_record
  record-small fr = small-six _ _ _

  pub cleared-free : (k : ℕ) (fr : List ℕ) → a.free ≡ k ∷ fr → (i : ℕ) (vs : List ℕ) → i + length vs ≤ 256 → Harmless S a (store k i vs)
  cleared-free k fr e i vs l = free-harmless M S z img tab a r k i vs (omega (arith, ap (tally k) e, tally-head k fr)) l

  -- a copy, of which some sectors are written: none of the directory's, or all others
  module _ (ss : List Store) (small' : Small (stored img ss)) (m : List ℕ) (long : length m ≡ length img)
      (v : (k : ℕ) → SameSector k m img ⊎ SameSector k m (stored img ss)) where
    pub one-sector : (d : ℕ) → ((p : ℕ) → p / 256 ≢ d → byte_at (stored img ss) p ≡ byte_at img p) → (m ≡ img) ⊎ (m ≡ stored img ss)
    one-sector d h = go (v d)
      where
        go : SameSector d m img ⊎ SameSector d m (stored img ss) → (m ≡ img) ⊎ (m ≡ stored img ss)
        go (inl e) = inl (ext_get_or 0 m img long (λ p b. all_old img (stored img ss) m v d (λ (x : ℕ). Unit {0}) (λ x u ne. h x ne) e p tt))
        go (inr e) = inr (ext_get_or 0 m (stored img ss) (long ∙ sym (length-stored ss img)) (λ p b. all_new img (stored img ss) m v d (λ (x : ℕ). Unit {0}) (λ x u ne. h x ne) e p tt))

    module _ (w : Into S a ss) where
      pub kept : (p : ℕ) → Matters S a p → p / 256 ≢ w.sector → byte_at (stored img ss) p ≡ byte_at img p
      kept = besides-kept S a img w.sector ss w.besides

      pub old-sector : SameSector w.sector m img → Intact S a img m
      old-sector e = record {
        long = long;
        small = small-mixed img (stored img ss) m v w.sector (Matters S a) kept small small';
        same = all_old img (stored img ss) m v w.sector (Matters S a) kept e;
      }

-- ---- a call, cut short

-- the image after a call is that with all its stores
pub next-image : (y : Machine) (c : Call) → (next flex y c).img ≡ stored y.img (stores_of in_order y c)
unfolding next outcome
next-image y (setting n i v) = refl
next-image y (extending n c) = refl
next-image y (asking n b) = refl

pub call-inside : (y : Machine) (c : Call) → Each (Inside (length y.img)) (stores_of in_order y c)
call-inside y (setting n i v) = tt
call-inside y (extending n c) = tt
call-inside y (asking n b) = (call-lawful y.img y.tab n b).inside

pub next_small : (y : Machine) → Small y.img → Small y.tab → (c : Call) → SendsByte c → Small (stored y.img (stores_of in_order y c))
next_small y s t (setting n i v) h = s
next_small y s t (extending n c) h = s
next_small y s t (asking n b) h = (call-lawful y.img y.tab n b).image_small (record { image = s; table = t; byte = h })

-- with all stores made, the image after the call is left
pub all-comes : (y : Machine) (c : Call) (k : ℕ) → length (stores_of in_order y c) ≤ k → stored y.img (take k (stores_of in_order y c)) ≡ (next flex y c).img
all-comes y c k h = ap (stored y.img) (take_all k (stores_of in_order y c) h) ∙ sym (next-image y c)

module _ (M S : ℕ) (z : Shape M S) (y : Machine) (a : Ledger) (f : Fine M S y a) (small : Small y.img) (c : Call)
    (g : Staged S a (stores_of in_order y c)) where
  pub listed-are : sectors_in y y.img ≡ a.dir
  listed-are = sectors-are M S z y a f
