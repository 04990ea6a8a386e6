-- Chains walked and listed: as the code goes, with the numbers stored on the way, and what that comes to by the definitions of rules.
use Rattle.std.specs.Prelude.{Option, Some, None}
use Rattle.std.specs.Prelude.{◌≡◌, Bool, eqb, leb, ltb}
use Rattle.std.proofs.Math.Path.{refl, ap}
use Rattle.std.proofs.Common.{sym, ap₂, ◌∙◌, subst, length-append}
use Rattle.std.proofs.Math.Bool.{true, false}
use mathlib.Core.List.{List, [], ◌∷◌, ◌++◌}
use Prim.Native.Nat.{ℕ, zero, suc, ◌+◌, ◌-◌, ◌*◌, ◌≤◌, ◌<◌}
use native.Mathlib.Omega.{arith}
use Rattle.std.proofs.Math.ListN.{length}
use borrow.Author.Tests.{le-leb, lt-leb, leb-true, lt-ltb, le-ltb, eq-eqb, ne_eqb}
use Rattle.rules.specs.Bytes.{pick, over, one}
use Rattle.rules.specs.Image.{index, is_data, data_number, link_of}
use Rattle.rules.specs.Directory.{on_next, next_of, most_of_directory, first_of_directory, sectors_from, directory, live, start_at, end_at, size_at}
use Rattle.rules.specs.Census.{runs_out, chain_right, numbers_from, file_right, files_right, file_numbers, files_numbers, directory_numbers}
use Rattle.rules.specs.declared.Next.{Next}
use Rattle.rules.specs.declared.Next.TheVariants.{End, To, Astray}
use Rattle.laws.specs.Tests.{clash, never, both, pick-cases}
use Rattle.laws.specs.Bytes.{over_none, over-append, length_over}
use Rattle.laws.specs.Surveys.{chain-right, length-numbers}
use Rattle.laws.specs.Visits.{one_left, none_left}
use Rattle.laws.specs.Walk.{sectors-more, sectors-none}
use Rattle.census_laws.specs.Stored.{over-cons}

-- a pass's answer, and the output that it leaves
pub data Laid : Type 0 where
  laid : Option ℕ → List ℕ → Laid

-- no second answer and output fits a promise of one
abbrev pub SingleLaid : Laid → Type 0
SingleLaid l = (r r' : Option ℕ) (out out' : List ℕ) → laid r out ≡ l → laid r' out' ≡ l → (r ≡ r') × (out ≡ out')

pub single-laid : (l : Laid) → SingleLaid l
single-laid l r r' out out' p q = (cc, cc)

-- on from where a pass ended
abbrev pub on_laid : Laid → (List ℕ → ℕ → Laid) → Laid
on_laid (laid (Some n) out) f = f out n
on_laid (laid None out) f = laid None out

-- n sectors by links, as `runs_out` goes, each one's number stored in the next place of an output: from the place at on, behind i numbers
unfoldable pub walk : List ℕ → ℕ → ℕ → ℕ → ℕ → ℕ → ℕ → List ℕ → ℕ → ℕ → Laid
walk img M S end zero before a out at i = laid (pick (eqb a 0) (pick (eqb before end) (Some i) None) None) out
walk img M S end (suc n) before a out at i =
    pick (is_data M S a)
    (walk img M S end n a (link_of img (index S a)) (over out (at + i) (one (data_number S (index S a)))) at (i + 1))
    (laid None out)

unfoldable pub chain : List ℕ → ℕ → ℕ → ℕ → ℕ → ℕ → List ℕ → ℕ → Laid
chain img M S start end count out at = pick (leb count (M * S)) (walk img M S end count 0 start out at 0) (laid None out)

-- start, end and count as a slot has them; the information record has those of the free chain as a slot at its byte 16 would
unfoldable pub chain_at : List ℕ → ℕ → ℕ → ℕ → List ℕ → ℕ → Laid
chain_at img M S slot out at = chain img M S (start_at img slot) (end_at img slot) (size_at img slot) out at

unfoldable pub file : List ℕ → ℕ → ℕ → ℕ → List ℕ → ℕ → Laid
file img M S slot out at = pick (live img slot) (chain_at img M S slot out at) (laid (Some 0) out)

-- the files of slots, behind n numbers that are listed
unfoldable pub files : List ℕ → ℕ → ℕ → List ℕ → List ℕ → ℕ → Laid
files img M S [] out n = laid (Some n) out
files img M S (o ∷ os) out n = on_laid (file img M S o out n) (λ out' m. files img M S os out' (n + m))

-- a sector of the directory, if it is a data sector; and all of these
unfoldable pub sector : ℕ → ℕ → List ℕ → ℕ → ℕ → Laid
sector S k out at i = pick (ltb k S) (laid (Some i) out) (laid (Some (i + 1)) (over out (at + i) (one (data_number S k))))

unfoldable pub sectors : ℕ → List ℕ → List ℕ → ℕ → ℕ → Laid
sectors S [] out at i = laid (Some i) out
sectors S (k ∷ ks) out at i = on_laid (sector S k out at i) (λ out' j. sectors S ks out' at j)

-- ---- turn by turn: w is what the walk comes to
module _ (img : List ℕ) (M S end n before a : ℕ) (out : List ℕ) (at i : ℕ) {w : Laid} (v : w ≡ walk img M S end n before a out at i) where
  walk_more : 0 < n
      → w ≡ pick (is_data M S a)
      (walk img M S end (n - 1) a (link_of img (index S a)) (over out (at + i) (one (data_number S (index S a)))) at (i + 1)) (laid None out)
  unfolding walk
  walk_more h = v ∙ ap (λ (j : ℕ). walk img M S end j before a out at i) (one_left n h)

  pub walk-bad : {b : Bool} → 0 < n → b ≡ is_data M S a → b ≡ false → laid None out ≡ w
  walk-bad h e k = rw (walk_more h, ← e, k) refl

  pub walk-on : {b : Bool} {k x next : ℕ} {out' : List ℕ} → 0 < n → b ≡ is_data M S a → b ≡ true → k ≡ index S a → x ≡ data_number S k
      → out' ≡ over out (at + i) (one x) → next ≡ link_of img k → w ≡ walk img M S end (n - 1) a next out' at (i + 1)
  walk-on h e t p q r l = rw (walk_more h, ← e, t, r, q, l, p) refl

  walk_none : n ≤ 0 → w ≡ laid (pick (eqb a 0) (pick (eqb before end) (Some i) None) None) out
  unfolding walk
  walk_none h = v ∙ ap (λ (j : ℕ). walk img M S end j before a out at i) (none_left n h)

  pub walk-further : n ≤ 0 → (a ≡ 0 → ⊥) → laid None out ≡ w
  walk-further h k = rw (walk_none h, ne_eqb a 0 k) refl

  pub walk-elsewhere : n ≤ 0 → a ≡ 0 → (before ≡ end → ⊥) → laid None out ≡ w
  walk-elsewhere h k l = rw (walk_none h, eq-eqb a 0 k, ne_eqb before end l) refl

  pub walk-done : n ≤ 0 → a ≡ 0 → before ≡ end → laid (Some i) out ≡ w
  walk-done h k l = rw (walk_none h, eq-eqb a 0 k, eq-eqb before end l) refl

-- a chain by its slot, from what was loaded
module _ (img : List ℕ) (M S slot : ℕ) (out : List ℕ) (at : ℕ) {start end count most : ℕ} (p : start ≡ start_at img slot) (q : end ≡ end_at img slot)
    (r : count ≡ size_at img slot) (m : most ≡ M * S) where
  pub chain-long : most < count → laid None out ≡ chain_at img M S slot out at
  unfolding chain_at chain
  chain-long h = rw (lt-leb (size_at img slot) (M * S) (omega arith)) refl

  pub chain-walked : {w : Laid} → count ≤ most → w ≡ walk img M S end count 0 start out at 0 → w ≡ chain_at img M S slot out at
  unfolding chain_at chain
  chain-walked h e = rw (le-leb (size_at img slot) (M * S) (omega arith), e, p, q, r) refl

-- the directory's sectors, and these from the sector k on
pub sectors-first : (img : List ℕ) (M S n : ℕ) (out : List ℕ) (at i : ℕ) → n ≡ most_of_directory M S
    → sectors S (directory img M S) out at i ≡ sectors S (sectors_from img M S n first_of_directory) out at i
unfolding directory
sectors-first img M S n out at i h = rw h refl

module _ (img : List ℕ) (M S n k : ℕ) (out : List ℕ) (at i : ℕ) {w : Laid} (v : w ≡ sectors S (sectors_from img M S n k) out at i) where
  pub sectors-end : n ≤ 0 → laid (Some i) out ≡ w
  unfolding sectors
  sectors-end h = rw (v, sectors-none img M S n k h) refl

  module _ {j : ℕ} {out' : List ℕ} {l : Next} (h : 0 < n) (d : laid (Some j) out' ≡ sector S k out at i) (e : l ≡ next_of img M S k) where
    sectors-here : w ≡ sectors S (on_next l [] [] (λ p. sectors_from img M S (n - 1) p)) out' at j
    unfolding sectors
    sectors-here = rw (v, sectors-more img M S n k h, ← d, e) refl

    pub sectors-next : {p : ℕ} → l ≡ To p → w ≡ sectors S (sectors_from img M S (n - 1) p) out' at j
    sectors-next t = rw (sectors-here, t) refl

    pub sectors-last : l ≡ End → laid (Some j) out' ≡ w
    unfolding sectors
    sectors-last t = rw (sectors-here, t) refl

    pub sectors-astray : l ≡ Astray → laid (Some j) out' ≡ w
    unfolding sectors
    sectors-astray t = rw (sectors-here, t) refl

-- one sector, from what was found
module _ (S k : ℕ) (out : List ℕ) (at i : ℕ) where
  pub sector-passed : k < S → laid (Some i) out ≡ sector S k out at i
  unfolding sector
  sector-passed h = rw (lt-ltb k S h) refl

  pub sector-listed : {out' : List ℕ} → S ≤ k → out' ≡ over out (at + i) (one (k - S)) → laid (Some (i + 1)) out' ≡ sector S k out at i
  unfolding sector
  sector-listed h e = rw (le-ltb k S h, e) refl

  -- one number more at most, and the output keeps its length
  pub sector-most : {j : ℕ} {out' : List ℕ} → laid (Some j) out' ≡ sector S k out at i → (j ≤ i + 1) × (length out' ≡ length out)
  unfolding sector
  sector-most {j} {out'} =
      pick-cases (λ (l : Laid). laid (Some j) out' ≡ l → (j ≤ i + 1) × (length out' ≡ length out)) (ltb k S) _ _
      (λ h e. let p : j ≡ i = cc in let q : out' ≡ out = cc in (omega arith, ap length q))
      (λ h e. let p : j ≡ i + 1 = cc in let q : out' ≡ over out (at + i) (one (data_number S k)) = cc in (omega arith, ap length q ∙ length_over out (at + i) _))

-- so turn by turn, where n sectors are left
module _ (S k : ℕ) (out out' : List ℕ) (at i j : ℕ) (d : laid (Some j) out' ≡ sector S k out at i) where
  pub sector-many : {n most : ℕ} → 0 < n → i + n ≤ most → j + (n - 1) ≤ most
  sector-many h b = omega (arith, (sector-most S k out at i d).0)

  pub sector-kept : (out₀ : List ℕ) → length out ≡ length out₀ → length out' ≡ length out₀
  sector-kept out₀ h = (sector-most S k out at i d).1 ∙ h

-- ---- what that comes to: these numbers from a place on, behind n that are counted, if the test holds; else an output of the same length
pub record Lists (b : Bool) (xs out : List ℕ) (at n : ℕ) (l : Laid) : Type 0 where
  pub after : List ℕ
  pub is : l ≡ laid (pick b (Some (n + length xs)) None) after
  pub kept : length after ≡ length out
  pub right : b ≡ true → after ≡ over out at xs

-- so where the pass answered r and left out'
module _ {b : Bool} {xs out : List ℕ} {at n : ℕ} {l : Laid} (h : Lists b xs out at n l) {r : Option ℕ} {out' : List ℕ} (e : laid r out' ≡ l) where
  out-is : out' ≡ h.after
  out-is = let q = e ∙ h.is in cc

  answer-is : r ≡ pick b (Some (n + length xs)) None
  answer-is = let q = e ∙ h.is in cc

  pub lists-kept : length out' ≡ length out
  lists-kept = ap length out-is ∙ h.kept

  pub lists-not : r ≡ None → b ≡ false
  lists-not t = go b (sym t ∙ answer-is)
    where
      go : (c : Bool) → None ≡ pick c (Some (n + length xs)) None → c ≡ false
      go true q = clash (cc)
      go false q = refl

  pub lists-to : {m : ℕ} → r ≡ Some m → (b ≡ true) × (m ≡ n + length xs) × (out' ≡ over out at xs)
  lists-to {m} t = go b refl (sym t ∙ answer-is)
    where
      go : (c : Bool) → b ≡ c → Some m ≡ pick c (Some (n + length xs)) None → (c ≡ true) × (m ≡ n + length xs) × (out' ≡ over out at xs)
      go true p q = (refl, cc, out-is ∙ h.right p)
      go false p q = clash (cc)

lists-wrong : (xs out : List ℕ) (at n : ℕ) → Lists false xs out at n (laid None out)
lists-wrong xs out at n = record { after = out; is = refl; kept = refl; right = λ h. absurd (never h) }

lists-none : (out : List ℕ) (at n : ℕ) → Lists true [] out at n (laid (Some n) out)
lists-none out at n = record { after = out; is = ap (λ (m : ℕ). laid (Some m) out) (omega arith); kept = refl; right = λ h. over_none out at [] }

lists-cons : (b : Bool) (x : ℕ) (xs out : List ℕ) (at n : ℕ) (l : Laid) → Lists b xs (over out (at + n) (one x)) (at + (n + 1)) (n + 1) l
    → Lists b (x ∷ xs) out (at + n) n l
lists-cons b x xs out at n l h =
    record {
      after = h.after;
      is = h.is ∙ ap (λ (m : ℕ). laid (pick b (Some m) None) h.after) (omega arith);
      kept = h.kept ∙ length_over out (at + n) (one x);
      right = λ k. h.right k ∙ ap (λ (i : ℕ). over (over out (at + n) (one x)) i xs) (omega arith) ∙ sym (over-cons out (at + n) x xs);
    }

-- a pass, and one behind it
lists-then : (b c : Bool) (xs ys out : List ℕ) (n : ℕ) (l : Laid) (f : List ℕ → ℕ → Laid) → Lists b xs out n 0 l
    → ((out' : List ℕ) (m : ℕ) → Lists c ys out' (n + m) (n + m) (f out' m)) → Lists (pick b c false) (xs ++ ys) out n n (on_laid l f)
lists-then true c xs ys out n l f h g =
    let r = g h.after (0 + length xs) in
    record {
      after = r.after;
      is =
          ap (λ (k : Laid). on_laid k f) h.is
          ∙ r.is
          ∙ ap (λ (m : ℕ). laid (pick c (Some m) None) r.after) (omega (arith, length-append xs ys));
      kept = r.kept ∙ h.kept;
      right = λ k. r.right k ∙ ap₂ (λ (m : List ℕ) (i : ℕ). over m i ys) (h.right refl) (omega arith) ∙ sym (over-append out n xs ys);
    }
lists-then false c xs ys out n l f h g =
    record {
      after = h.after;
      is = ap (λ (k : Laid). on_laid k f) h.is;
      kept = h.kept;
      right = λ k. absurd (never k);
    }

-- the directory's data sectors are always listed
pub sectors-lists : (S : ℕ) (ks out : List ℕ) (at n : ℕ) → Lists true (directory_numbers S ks) out (at + n) n (sectors S ks out at n)
unfolding sectors sector directory_numbers
sectors-lists S [] out at n = lists-none out (at + n) n
sectors-lists S (k ∷ ks) out at n =
    go (ltb k S) (sectors-lists S ks out at n) (sectors-lists S ks (over out (at + n) (one (data_number S k))) at (n + 1))
  where
    go : (b : Bool)
        → Lists true (directory_numbers S ks) out (at + n) n (sectors S ks out at n)
        → Lists true (directory_numbers S ks) (over out (at + n) (one (data_number S k))) (at + (n + 1)) (n + 1) (sectors S ks (over out (at + n) (one (data_number S k))) at (n + 1))
        → Lists true (pick b (directory_numbers S ks) (data_number S k ∷ directory_numbers S ks)) out (at + n) n
        (on_laid (pick b (laid (Some n) out) (laid (Some (n + 1)) (over out (at + n) (one (data_number S k))))) (λ out' j. sectors S ks out' at j))
    go true h g = h
    go false h g = lists-cons true _ _ out at n _ g

module _ (img : List ℕ) (M S : ℕ) where
  pub walk-lists : (end n before a : ℕ) (out : List ℕ) (at i : ℕ)
      → Lists (runs_out img M S end n before a) (numbers_from img S n a) out (at + i) i (walk img M S end n before a out at i)
  unfolding walk runs_out numbers_from
  walk-lists end zero before a out at i = go (eqb a 0) (eqb before end)
    where
      go : (b c : Bool) → Lists (pick b c false) [] out (at + i) i (laid (pick b (pick c (Some i) None) None) out)
      go true true = lists-none out (at + i) i
      go true false = lists-wrong [] out (at + i) i
      go false c = lists-wrong [] out (at + i) i
  walk-lists end (suc n) before a out at i =
      go (is_data M S a)
      (walk-lists end n a (link_of img (index S a)) (over out (at + i) (one (data_number S (index S a)))) at (i + 1))
    where
      go : (b : Bool)
          → Lists (runs_out img M S end n a (link_of img (index S a))) (numbers_from img S n (link_of img (index S a)))
          (over out (at + i) (one (data_number S (index S a)))) (at + (i + 1)) (i + 1)
          (walk img M S end n a (link_of img (index S a)) (over out (at + i) (one (data_number S (index S a)))) at (i + 1))
          → Lists (pick b (runs_out img M S end n a (link_of img (index S a))) false)
          (data_number S (index S a) ∷ numbers_from img S n (link_of img (index S a))) out (at + i) i
          (pick b (walk img M S end n a (link_of img (index S a)) (over out (at + i) (one (data_number S (index S a)))) at (i + 1)) (laid None out))
      go true h = lists-cons _ _ _ out at i _ h
      go false h = lists-wrong _ out (at + i) i

  pub chain-lists : (start end count : ℕ) (out : List ℕ) (at : ℕ)
      → Lists (chain_right img M S start end count) (numbers_from img S count start) out at 0 (chain img M S start end count out at)
  unfolding chain
  chain-lists start end count out at =
      rw (chain-right img M S start end count)
      (go (leb count (M * S)) (subst (λ (i : ℕ). Lists (runs_out img M S end count 0 start) (numbers_from img S count start) out i 0 (walk img M S end count 0 start out at 0)) (omega arith) (walk-lists end count 0 start out at 0)))
    where
      go : (b : Bool) → Lists (runs_out img M S end count 0 start) (numbers_from img S count start) out at 0 (walk img M S end count 0 start out at 0)
          → Lists (pick b (runs_out img M S end count 0 start) false) (numbers_from img S count start) out at 0
          (pick b (walk img M S end count 0 start out at 0) (laid None out))
      go true h = h
      go false h = lists-wrong _ out at 0

  pub file-lists : (slot : ℕ) (out : List ℕ) (at : ℕ) → Lists (file_right img M S slot) (file_numbers img S slot) out at 0 (file img M S slot out at)
  unfolding file file_right file_numbers chain_at
  file-lists slot out at = go (live img slot) (chain-lists (start_at img slot) (end_at img slot) (size_at img slot) out at)
    where
      go : (b : Bool)
          → Lists (chain_right img M S (start_at img slot) (end_at img slot) (size_at img slot)) (numbers_from img S (size_at img slot) (start_at img slot)) out at 0
          (chain img M S (start_at img slot) (end_at img slot) (size_at img slot) out at)
          → Lists (pick b (chain_right img M S (start_at img slot) (end_at img slot) (size_at img slot)) true)
          (pick b (numbers_from img S (size_at img slot) (start_at img slot)) []) out at 0
          (pick b (chain img M S (start_at img slot) (end_at img slot) (size_at img slot) out at) (laid (Some 0) out))
      go true h = h
      go false h = lists-none out at 0

  pub files-lists : (os out : List ℕ) (n : ℕ) → Lists (files_right img M S os) (files_numbers img S os) out n n (files img M S os out n)
  unfolding files files_right files_numbers
  files-lists [] out n = lists-none out n n
  files-lists (o ∷ os) out n =
      lists-then (file_right img M S o) (files_right img M S os) (file_numbers img S o) (files_numbers img S os) out n (file img M S o out n)
      (λ out' m. files img M S os out' (n + m)) (file-lists o out n) (λ out' m. files-lists os out' (n + m))

  -- the output keeps its length, and a file's list that is right has at most M-as-S numbers
  pub file-kept : (o : ℕ) (out out' : List ℕ) (at : ℕ) {r : Option ℕ} → laid r out' ≡ file img M S o out at → length out' ≡ length out
  file-kept o out out' at e = lists-kept (file-lists o out at) e

  file-most : (o : ℕ) → file_right img M S o ≡ true → length (file_numbers img S o) ≤ M * S
  unfolding file_right file_numbers
  file-most o h = go (live img o) (rw (chain-right img M S (start_at img o) (end_at img o) (size_at img o)) at h)
    where
      go : (b : Bool) → pick b (pick (leb (size_at img o) (M * S)) (runs_out img M S (end_at img o) (size_at img o) 0 (start_at img o)) false) true ≡ true
          → length (pick b (numbers_from img S (size_at img o) (start_at img o)) []) ≤ M * S
      go true h =
          omega (arith, leb-true (size_at img o) (M * S) (both (leb (size_at img o) (M * S)) _ h).0, length-numbers img S (size_at img o) (start_at img o))
      go false h = omega arith

  pub file-many : (o : ℕ) (out out' : List ℕ) (at m : ℕ) {r : Option ℕ} → laid r out' ≡ file img M S o out at → r ≡ Some m → m ≤ M * S
  file-many o out out' at m e t = let f = lists-to (file-lists o out at) e t in omega (arith, file-most o f.0)
