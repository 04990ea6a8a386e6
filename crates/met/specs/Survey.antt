-- The ledger of an image: what the census accepts is a ledger that image and table agree with, and the other way round.
use Rattle.std.specs.Prelude.{◌≡◌, ◌≢◌, Bool, false, ℕ, zero, suc, ◌+◌, ◌*◌, ◌≤◌, ◌<◌, replicate}
use Rattle.std.proofs.Math.Path.{refl, sym, ap, subst}
use Rattle.std.proofs.Common.{ap₂, ◌∙◌, arith, ext_get_or}
use Rattle.std.proofs.Math.Bool.{true}
use mathlib.Core.List.{List, [], ◌∷◌, ◌++◌}
use Rattle.std.proofs.Math.ListN.{length, get_or, get_or-replicate}
use Rattle.rules.specs.Bytes.{pick, word_at, part, flat}
use Rattle.rules.specs.Directory.{live, directory, slots, slots_of}
use Rattle.rules.specs.Repair.{all_of}
use Rattle.rules.specs.Census.{chain_right, free_right, file_owners, files_owners, listed, directory_owner, owners, each_once}
use Rattle.laws.specs.Bytes.{length_part}
use Rattle.laws.specs.Small.{Small}
use Rattle.laws.specs.Surveys.{Sane}
use Rattle.laws.specs.Slots.{live_at}
use Rattle.laws.specs.Addresses.{Shape}
use Rattle.chains.specs.Once.{Once}
use Rattle.chains.specs.Addresses.{Sized}
use Rattle.chains.specs.Chain.{Chain, pieces, contents}
use Rattle.chains.specs.Directory.{Listing, directory-is, directory-sound}
use Rattle.chains.specs.Data.{AllData}
use Rattle.chains.specs.Walk.{chain_at, length-walk, numbers, length-numbers, data_of, numbers-data, chain-complete, once-complete}
use Rattle.chains.specs.Files.{sectors_at, sectors_in, listed-had, files-right, right-files, record-at, sound-at, free-sound, sane-once}
use Rattle.demands.specs.Diskette.{file_at, files_at, ledger_of, ledger_numbers, owners_from, ledger_owners}
use Rattle.demands.specs.Ledger.{File, no_file, Block, closed, Ledger, secs_of}
use Rattle.met.specs.Relation.{tb, writes, Holds, Keeps, Agrees}
use Rattle.met.specs.Sectors.{free-data, free-count, secs-data, secs-count}
use Rattle.met.specs.Tidy.{name_of, Tidy, twins-sound, twins-complete}

-- ---- the files of an image

pub length-files : (S : ℕ) (img os : List ℕ) → length (files_at S img os) ≡ length os
unfolding files_at
length-files S img [] = refl
length-files S img (o ∷ os) = ap suc (length-files S img os)

pub files-at : (S : ℕ) (img os : List ℕ) (i : ℕ) → i < length os → get_or (files_at S img os) i no_file ≡ file_at S img (get_or os i 0)
unfolding files_at
files-at S img [] i h = absurd (omega arith)
files-at S img (o ∷ os) zero h = refl
files-at S img (o ∷ os) (suc i) h = files-at S img os i (omega arith)

-- ---- what the census lists

-- the sectors of the files, as the census walks them
secs-files : (S : ℕ) (img os : List ℕ) → all_of (sectors_in S img os) ≡ flat secs_of (files_at S img os)
unfolding files_at file_at
secs-files S img [] = refl
secs-files S img (o ∷ os) = ap (λ (l : List ℕ). sectors_at S img o ++ l) (secs-files S img os)

pub listed-is : (M S : ℕ) (img tab : List ℕ) → listed img M S ≡ ledger_numbers S (ledger_of M S img tab)
unfolding ledger_of
listed-is M S img tab =
    listed-had M S img
    ∙ ap (λ (fs : List ℕ). numbers S (chain_at S img 541 ++ (data_of S (directory img M S) ++ fs))) (secs-files S img (slots img M S))

file-owners : (S : ℕ) (img : List ℕ) (o owner : ℕ) → file_owners img o owner ≡ replicate (length (sectors_at S img o)) owner
unfolding file_owners
file-owners S img o owner = go (live img o)
  where
    go : (u : Bool) → pick u (replicate (word_at img (o + 17)) owner) [] ≡ replicate (length (pick u (chain_at S img (o + 13)) [])) owner
    go false = refl
    go true =
        ap (λ (x : ℕ). replicate {A = ℕ} x owner)
        (ap (word_at img) (omega arith) ∙ sym (length-walk S img (word_at img (o + 13 + 4)) (word_at img (o + 13))))

files-owners : (S : ℕ) (img os : List ℕ) (owner : ℕ) → files_owners img owner os ≡ owners_from owner (files_at S img os)
unfolding files_owners files_at file_at
files-owners S img [] owner = refl
files-owners S img (o ∷ os) owner = ap₂ (λ (x y : List ℕ). x ++ y) (file-owners S img o owner) (files-owners S img os (owner + 1))

pub owners-is : (M S : ℕ) (img tab : List ℕ) → owners img M S ≡ ledger_owners S (ledger_of M S img tab)
unfolding owners ledger_of
owners-is M S img tab =
    ap₂ (λ (x y : List ℕ). x ++ y) (ap (λ (x : ℕ). replicate {A = ℕ} x 0) (sym (length-walk S img (word_at img 545) (word_at img 541))))
    (ap₂ (λ (x y : List ℕ). x ++ y)
    (ap (λ (x : ℕ). replicate {A = ℕ} x directory_owner) (ap length (numbers-data S (directory img M S)) ∙ length-numbers S (data_of S (directory img M S))))
    (files-owners S img (slots img M S) 1))

-- ---- SOUND: an image that the census accepts, every block closed

module _ (M S : ℕ) (z : Shape M S) (img : List ℕ) (h : Sized M S img) (small : Small img) (sane : Sane img M S) where
  abbrev ds : List ℕ
  ds = directory img M S

  dir : Listing M S ds
  dir = (directory-sound M S z img small.at sane.right).0

  holds-sound : (o : ℕ) → (live img o ≡ true → Chain S img (o + 13) (chain_at S img (o + 13))) → Holds S img o (file_at S img o)
  unfolding file_at
  holds-sound o c =
      let l : live img o ≡ live (part img o 11) 0 = live_at img (part img o 11) o refl in
      record {
        at = refl;
        name = refl;
        mode = refl;
        ends = refl;
        map = refl;
        date = refl;
        chain = λ v. let u : live img o ≡ true = l ∙ v in subst (λ (x : Bool). Chain S img (o + 13) (pick x (chain_at S img (o + 13)) [])) (sym u) (c u);
        dead = λ v. ap (λ (x : Bool). pick x (chain_at S img (o + 13)) []) (l ∙ v);
        recs = refl;
        body = refl;
      }

  pub start-agrees : (tab : List ℕ) → length tab ≡ 2560 → ((n : ℕ) → n < 8 → tb tab n 2 ≡ 0) → Agrees M S img tab (ledger_of M S img tab)
  unfolding ledger_of
  start-agrees tab tl shut =
      record {
        shaped = h;
        tlen = tl;
        listing = dir;
        dir = (directory-sound M S z img small.at sane.right).1;
        heads = refl;
        ns = length-files S img (slots_of ds);
        nb = refl;
        free = (free-sound M S z img small sane).0;
        holds = λ i b. subst (λ (f : File). Holds S img (get_or (slots_of ds) i 0) f) (sym (files-at S img (slots_of ds) i b)) (holds-sound (get_or (slots_of ds) i 0) (λ v. (sound-at M S z img small (get_or (slots_of ds) i 0) (files-right M S img (slots_of ds) sane.files i b v)).0));
        keeps = λ n b. subst (λ (x : Block). Keeps S (slots_of ds) tab n (files_at S img (slots_of ds)) x) (sym (closed_at n b)) (shut n b);
        alone = λ n n' ne hn hn' w. absurd (omega (arith, ap writes (closed_at n hn)));
        once = subst (λ (fs : List ℕ). Once S ((M + 1) * S) (chain_at S img 541 ++ (data_of S ds ++ fs))) (secs-files S img (slots_of ds)) (sane-once M S z img small sane);
        spare = refl;
        small = λ p g. small.at p;
        len = refl;
        aside = λ p low rec off. refl;
      }
    where
      closed_at : (n : ℕ) → n < 8 → get_or (replicate 8 closed) n closed ≡ closed
      closed_at n b = get_or-replicate {A = Block} 8 n closed closed b

  -- names
  name-at : (i : ℕ) → i < length (slots_of ds) → name_of (files_at S img (slots_of ds)) i ≡ part img (get_or (slots_of ds) i 0) 11
  unfolding file_at
  name-at i b = ap (λ (f : File). f.name) (files-at S img (slots_of ds) i b)

  live-name : (i : ℕ) → i < length (slots_of ds) → live (name_of (files_at S img (slots_of ds)) i) 0 ≡ live img (get_or (slots_of ds) i 0)
  live-name i b = ap (λ (x : List ℕ). live x 0) (name-at i b) ∙ sym (live_at img (part img (get_or (slots_of ds) i 0) 11) (get_or (slots_of ds) i 0) refl)

  pub start-tidy : (tab : List ℕ) → Tidy (ledger_of M S img tab).slots
  unfolding ledger_of
  start-tidy tab =
      let long : (i : ℕ) → i < length (files_at S img (slots_of ds)) → i < length (slots_of ds) =
      λ i b. omega (arith, length-files S img (slots_of ds)) in
      record {
        long = λ i b. ap length (name-at i (long i b)) ∙ length_part img (get_or (slots_of ds) i 0) 11;
        apart = λ i j ne a b u v w. two i j ne (long i a) (long j b) (sym (live-name i (long i a)) ∙ u) (sym (live-name j (long j b)) ∙ v)
            (sym (name-at i (long i a)) ∙ w ∙ name-at j (long j b));
      }
    where
      two : (i j : ℕ) → i ≢ j → i < length (slots_of ds) → j < length (slots_of ds) → live img (get_or (slots_of ds) i 0) ≡ true
          → live img (get_or (slots_of ds) j 0) ≡ true
          → part img (get_or (slots_of ds) i 0) 11 ≢ part img (get_or (slots_of ds) j 0) 11
      two i j ne a b u v w = go (native.Mathlib.Decide.dec_lt i j)
        where
          go : Dec (i < j) → ⊥
          go (yes l) = twins-sound img (slots_of ds) sane.no_twins i j l b u v w
          go (no l) = twins-sound img (slots_of ds) sane.no_twins j i (omega (arith, ne, l)) a v u (sym w)

-- ---- COMPLETE: a ledger that image and table agree with, and that is tidy

file-path : (f g : File) → f.at ≡ g.at → f.name ≡ g.name → f.mode ≡ g.mode → f.ends ≡ g.ends → f.map ≡ g.map → f.date ≡ g.date
    → f.secs ≡ g.secs → f.recs ≡ g.recs → f.body ≡ g.body → f ≡ g
file-path f g o p m e v d q c r = λ i. record { at = o i; name = p i; mode = m i; ends = e i; map = v i; date = d i; secs = q i; recs = c i; body = r i }

-- a slot that holds a file: its sectors are found by its links, and it is the file
module _ (M S : ℕ) (z : Shape M S) (m : List ℕ) (o : ℕ) (f : File) (h : Holds S m o f) (all : AllData M S f.secs) (few : length f.secs ≤ M * S) where
  live-held : live m o ≡ live f.name 0
  live-held = live_at m f.name o h.name

  pub chain_held : live f.name 0 ≡ true
      → (chain_at S m (o + 13) ≡ f.secs) × (chain_right m M S (word_at m (o + 13)) (word_at m (o + 13 + 2)) (word_at m (o + 13 + 4)) ≡ true)
  chain_held v = chain-complete M S z m (o + 13) f.secs all few (h.chain v)

  secs-held : sectors_at S m o ≡ f.secs
  secs-held = rw live-held (go (live f.name 0) refl)
    where
      go : (u : Bool) → live f.name 0 ≡ u → pick u (chain_at S m (o + 13)) [] ≡ f.secs
      go true e = (chain_held e).0
      go false e = sym (h.dead e)

  pub file-held : file_at S m o ≡ f
  unfolding file_at
  file-held =
      file-path (file_at S m o) f (sym h.at) h.name h.mode h.ends h.map h.date secs-held (ap (pieces 2 2 m) secs-held ∙ sym h.recs) (ap (contents m) secs-held ∙ sym h.body)

module _ (M S : ℕ) (z : Shape M S) (img tab : List ℕ) (a : Ledger) (r : Agrees M S img tab a) where
  free_back : (chain_at S img 541 ≡ a.free) × (chain_right img M S (word_at img 541) (word_at img (541 + 2)) (word_at img (541 + 4)) ≡ true)
  free_back = chain-complete M S z img 541 a.free (free-data M S z img tab a r) (free-count M S z img tab a r) r.free

  pub file-back : (s : ℕ) → s < length (slots_of a.dir) → live (get_or a.slots s no_file).name 0 ≡ true
      → (chain_at S img (get_or (slots_of a.dir) s 0 + 13) ≡ (get_or a.slots s no_file).secs)
      × (chain_right img M S (word_at img (get_or (slots_of a.dir) s 0 + 13)) (word_at img (get_or (slots_of a.dir) s 0 + 13 + 2)) (word_at img (get_or (slots_of a.dir) s 0 + 13 + 4)) ≡ true)
  file-back s b =
      chain_held M S z img (get_or (slots_of a.dir) s 0) (get_or a.slots s no_file) (r.holds s b) (secs-data M S z img tab a r s b) (secs-count M S z img tab a r s b)

  live_back : (s : ℕ) → s < length (slots_of a.dir) → live img (get_or (slots_of a.dir) s 0) ≡ live (get_or a.slots s no_file).name 0
  live_back s b = live_at img (get_or a.slots s no_file).name (get_or (slots_of a.dir) s 0) (r.holds s b).name

  -- the sectors that a slot has, and the file that stands in it
  pub secs-back : (s : ℕ) → s < length (slots_of a.dir) → sectors_at S img (get_or (slots_of a.dir) s 0) ≡ (get_or a.slots s no_file).secs
  secs-back s b =
      secs-held M S z img (get_or (slots_of a.dir) s 0) (get_or a.slots s no_file) (r.holds s b) (secs-data M S z img tab a r s b) (secs-count M S z img tab a r s b)

  pub file-is : (s : ℕ) → s < length (slots_of a.dir) → file_at S img (get_or (slots_of a.dir) s 0) ≡ get_or a.slots s no_file
  file-is s b =
      file-held M S z img (get_or (slots_of a.dir) s 0) (get_or a.slots s no_file) (r.holds s b) (secs-data M S z img tab a r s b) (secs-count M S z img tab a r s b)

  pub files-are : files_at S img (slots_of a.dir) ≡ a.slots
  files-are =
      ext_get_or no_file (files_at S img (slots_of a.dir)) a.slots (length-files S img (slots_of a.dir) ∙ sym r.ns)
      (λ i h. let b : i < length (slots_of a.dir) = omega (arith, length-files S img (slots_of a.dir)) in files-at S img (slots_of a.dir) i b ∙ file-is i b)

  -- the ledger of the image is this one, but for its blocks
  pub ledger-free : (ledger_of M S img tab).free ≡ a.free
  unfolding ledger_of
  ledger-free = free_back.0

  pub ledger-slots : (ledger_of M S img tab).slots ≡ a.slots
  unfolding ledger_of
  ledger-slots = ap (λ (x : List ℕ). files_at S img (slots_of x)) (directory-is M S z img a.dir r.listing r.dir).1 ∙ files-are

  pub ledger-dir : (ledger_of M S img tab).dir ≡ a.dir
  unfolding ledger_of
  ledger-dir = (directory-is M S z img a.dir r.listing r.dir).1

  pub numbers-back : ledger_numbers S (ledger_of M S img tab) ≡ ledger_numbers S a
  numbers-back =
      ap₂ (λ (x y : List ℕ). numbers S (x ++ y)) ledger-free (ap₂ (λ (d : List ℕ) (fs : List File). data_of S d ++ flat secs_of fs) ledger-dir ledger-slots)

  pub sane-back : Tidy a.slots → Sane img M S
  unfolding free_right ledger_of
  sane-back t =
      let dr = directory-is M S z img a.dir r.listing r.dir in
      record {
        right = dr.0;
        no_twins =
            rw dr.1 (twins-complete img (slots_of a.dir) (λ i j x y u v w. t.apart i j (omega arith) (omega (arith, r.ns)) (omega (arith, r.ns))
            (sym (live_back i (omega arith)) ∙ u) (sym (live_back j y) ∙ v) (sym (r.holds i (omega arith)).name ∙ w ∙ (r.holds j y).name)));
        free = free_back.1;
        files = rw dr.1 (right-files M S img (slots_of a.dir) (λ i b v. record-at M S img (get_or (slots_of a.dir) i 0) ∙ (file-back i b (sym (live_back i b) ∙ v)).1));
        once = ap (each_once (M * S)) (listed-is M S img tab ∙ numbers-back)
            ∙ once-complete M S (a.free ++ (data_of S a.dir ++ flat secs_of a.slots)) r.once;
      }
