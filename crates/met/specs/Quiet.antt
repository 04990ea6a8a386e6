-- Calls that change a block alone, and those that change nothing that the ledger knows.
use Rattle.std.specs.Prelude.{◌≡◌, refl, ◌≢◌, List, [], ◌∷◌, ℕ, suc, ◌+◌, ◌*◌, ◌≤◌, ◌<◌, get_or}
use Rattle.std.proofs.Common.{sym, ap, ◌∙◌, subst, arith}
use Rattle.std.proofs.lemmas.List.{set-get_or}
use Rattle.rules.specs.Bytes.{one}
use Rattle.rules.specs.Stores.{Put, put, puts}
use Rattle.rules.specs.Directory.{slots_of}
use Rattle.laws.specs.Bytes.{length-one}
use Rattle.laws.specs.Addresses.{Shape}
use Rattle.laws.specs.Stores.{length-puts, Within, puts-off, puts-other}
use Rattle.laws.specs.Each.{Each}
use Rattle.demands.specs.Ledger.{File, Block, closed, listing, reading, writing, Ledger, activity, set_block}
use Rattle.met.specs.Relation.{tb, tp, opens, writes, Keeps, Agrees, Rest, keeps_same, Turn, step_block}

-- stores inside of block n leave the others
pub turned : (tab : List ℕ) (n : ℕ) (ps : List Put) → Each Within ps → Turn tab (puts tab (320 * n) ps) n
turned tab n ps w = record { len = length-puts ps tab (320 * n); others = λ n' e i h. puts-other ps tab n n' i e h.1 w }

-- the activity byte says what the block does
pub activity-is : (S : ℕ) (os tab : List ℕ) (n : ℕ) (fs : List File) (b : Block) → Keeps S os tab n fs b → tb tab n 2 ≡ activity b
activity-is S os tab n fs closed k = k
activity-is S os tab n fs (listing p) k = k.act
activity-is S os tab n fs (reading s j i) k = k.act
activity-is S os tab n fs (writing s ub) k = k.act

pub writes-opens : (b : Block) → 1 ≤ writes b → writes b ≡ opens b
writes-opens closed h = absurd (omega arith)
writes-opens (listing p) h = absurd (omega arith)
writes-opens (reading s j i) h = absurd (omega arith)
writes-opens (writing s ub) h = refl

pub shut-writes : (b : Block) → opens b ≡ 0 → writes b ≡ 0
shut-writes closed h = refl
shut-writes (listing p) h = refl
shut-writes (reading s j i) h = refl
shut-writes (writing s ub) h = h

module _ (M S : ℕ) (z : Shape M S) (img tab : List ℕ) (a : Ledger) (r : Agrees M S img tab a) (n : ℕ) (hn : n < 8) where
  abbrev old : Block
  old = get_or a.blocks n closed

  -- a block that has the same slot open in the same way
  pub alone1 : (b : Block) → opens b ≡ opens old → writes b ≡ writes old → (n' : ℕ) → n' < 8 → n' ≢ n → 1 ≤ writes b
      → writes b ≢ opens (get_or a.blocks n' closed)
  alone1 b o w n' h e k = λ q. r.alone n n' (λ x. e (sym x)) hn h (omega arith) (sym w ∙ q)

  pub alone2 : (b : Block) → opens b ≡ opens old → (n' : ℕ) → n' < 8 → n' ≢ n → 1 ≤ opens b → writes (get_or a.blocks n' closed) ≢ opens b
  alone2 b o n' h e k = λ q. r.alone n' n e h hn (omega arith) (q ∙ o)

  -- no other block has the slot open that block n writes
  pub nobody : (s : ℕ) (ub : List ℕ) → old ≡ writing s ub → (n' : ℕ) → n' < 8 → n' ≢ n → opens (get_or a.blocks n' closed) ≢ suc s
  nobody s ub e n' h ne q = r.alone n n' (λ x. ne (sym x)) hn h (rw e (omega arith)) (ap writes e ∙ sym q)

  pub on-block : (tab' : List ℕ) (b : Block) → Turn tab tab' n → opens b ≡ opens old → writes b ≡ writes old
      → Keeps S (slots_of a.dir) tab' n a.slots b
      → Agrees M S img tab' (set_block a n b)
  on-block tab' b t o w k = step_block M S z img tab a r tab' n b hn t k (alone1 b o w) (alone2 b o)

  -- a block that has nothing open afterwards
  pub shut-block : (tab' : List ℕ) (b : Block) → Turn tab tab' n → opens b ≡ 0 → writes b ≡ 0 → Keeps S (slots_of a.dir) tab' n a.slots b
      → Agrees M S img tab' (set_block a n b)
  shut-block tab' b t o w k =
      step_block M S z img tab a r tab' n b hn t k (λ n' h e u. absurd (omega (arith, u, w))) (λ n' h e u. absurd (omega (arith, u, o)))

  as_it_was : (tab' : List ℕ) → Turn tab tab' n → Keeps S (slots_of a.dir) tab' n a.slots old → Agrees M S img tab' a
  as_it_was tab' t k =
      subst (λ (bs : List Block). Agrees M S img tab' (record { base = a.base; free = a.free; spare = a.spare; dir = a.dir; heads = a.heads; slots = a.slots; blocks = bs; fcbs = a.fcbs })) (set-get_or a.blocks n closed)
      (on-block tab' old t refl refl k)

  -- bytes 0 and 1 alone change: a refusal, a preset of byte 0
  pub quiet : (tab' : List ℕ) → Turn tab tab' n → Rest tab tab' n → Agrees M S img tab' a
  quiet tab' t k = as_it_was tab' t (keeps_same S (slots_of a.dir) tab tab' n a.slots a.slots old k (λ o s e. refl) (r.keeps n hn))

  -- the number of an answer is stored
  pub answered : (e : ℕ) → Agrees M S img (puts tab (320 * n) (put 1 (one e) ∷ [])) a
  answered e =
      quiet (puts tab (320 * n) (put 1 (one e) ∷ [])) (turned tab n (put 1 (one e) ∷ []) (omega (arith, length-one e)))
      (λ i h. puts-off (put 1 (one e) ∷ []) tab (320 * n) (320 * n + i) (omega (arith, length-one e)))

  idle-keeps : (tab' : List ℕ) (fs : List File) (b : Block) → opens b ≡ 0 → tb tab' n 2 ≡ tb tab n 2 → tp tab' n ≡ tp tab n
      → Keeps S (slots_of a.dir) tab n a.slots b → Keeps S (slots_of a.dir) tab' n fs b
  idle-keeps tab' fs closed o e p k = e ∙ k
  idle-keeps tab' fs (listing c) o e p k = record { act = e ∙ k.act; shown = k.shown; place = p ∙ k.place }
  idle-keeps tab' fs (reading s j i) o e p k = absurd (omega arith)
  idle-keeps tab' fs (writing s ub) o e p k = absurd (omega arith)

  -- an idle block after stores that leave its activity and its place, whatever the files
  pub idle-kept : (tab' : List ℕ) (fs : List File) → opens old ≡ 0 → tb tab' n 2 ≡ tb tab n 2 → tp tab' n ≡ tp tab n
      → Keeps S (slots_of a.dir) tab' n fs old
  idle-kept tab' fs o e p = idle-keeps tab' fs old o e p (r.keeps n hn)

  -- an idle block's activity and place are kept: presets, what is copied into it
  pub idle-quiet : (tab' : List ℕ) → Turn tab tab' n → opens old ≡ 0 → tb tab' n 2 ≡ tb tab n 2 → tp tab' n ≡ tp tab n → Agrees M S img tab' a
  idle-quiet tab' t o e p = as_it_was tab' t (idle-kept tab' a.slots o e p)

  -- an activity of 0 or 16: nothing is open
  pub idle-opens : tb tab n 2 ≢ 1 → tb tab n 2 ≢ 2 → opens old ≡ 0
  idle-opens h k = go old (activity-is S (slots_of a.dir) tab n a.slots old (r.keeps n hn))
    where
      go : (b : Block) → tb tab n 2 ≡ activity b → opens b ≡ 0
      go closed e = refl
      go (listing p) e = refl
      go (reading s j i) e = absurd (h e)
      go (writing s ub) e = absurd (k e)
