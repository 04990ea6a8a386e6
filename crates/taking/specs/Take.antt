-- Taking a sector as the code does it: what is loaded, the tests.
use Rattle.std.specs.Prelude.{◌≡◌, refl, Bool, true, false, List, [], ◌∷◌, ◌++◌, ℕ, ◌+◌, ◌/◌, ◌%◌, eqb, Result, Ok, Err}
use Rattle.std.proofs.Math.Path.{ap, ◌∙◌}
use Rattle.rules.specs.Bytes.{pick, six}
use Rattle.rules.specs.Stores.{Store, store, Put}
use Rattle.rules.specs.Image.{index, is_data, first_free, free_count}
use Rattle.rules.specs.Refusals.{code, number_of}
use Rattle.rules.specs.declared.refusal.Refusal.{Refusal}
use Rattle.rules.specs.declared.refusal.Refusal.TheVariants.{DiskFull, BadWrite}
use Rattle.rules.specs.Outcome.{Outcome, refuse, done, unless, when, Effect, effect}
use Rattle.rules.specs.Block.{position_in, start_in, size_in}
use Rattle.rules.specs.Transfer.{on_free, off_free, fresh, linked, take_stores, take_puts, take_for}
use Rattle.laws.specs.Tests.{flag, clash}
use Rattle.laws.specs.Refusals.{code-not}
use Rattle.taking.specs.declared.Block.{Block}
use Rattle.taking.specs.declared.Longer.{Longer}

-- ---- the free chain gives a sector, or does not

-- its first, or why it is not to be taken
unfoldable pub free_sector : List ℕ → ℕ → ℕ → Result ℕ Refusal
free_sector img M S = pick (eqb (free_count img) 0) (Err DiskFull) (pick (is_data M S (first_free img)) (Ok (first_free img)) (Err BadWrite))

-- 0, or the number of the refusal
unfoldable pub free_fault : List ℕ → ℕ → ℕ → ℕ
free_fault img M S = number_of (free_sector img M S)

-- what is done with it; a refusal stands
abbrev pub on_ok : Result ℕ Refusal → (ℕ → Outcome) → Outcome
on_ok (Ok a) next = next a
on_ok (Err e) next = refuse (code e)

-- these are the rule's tests
pub on-sector : (img : List ℕ) (M S : ℕ) (next : ℕ → Outcome) → on_free img M S (next (first_free img)) ≡ on_ok (free_sector img M S) next
unfolding free_sector
on-sector img M S next = go (eqb (free_count img) 0) (is_data M S (first_free img))
  where
    go : (b c : Bool) → pick b (refuse 7) (pick c (next (first_free img)) (refuse 10)) ≡ on_ok (pick b (Err DiskFull) (pick c (Ok (first_free img)) (Err BadWrite))) next
    go true c = refl
    go false true = refl
    go false false = refl

-- the sector that it gives is the first
pub sector-is : (img : List ℕ) (M S : ℕ) {new : ℕ} → free_sector img M S ≡ Ok new → first_free img ≡ new
unfolding free_sector
sector-is img M S {new} = go (eqb (free_count img) 0) (is_data M S (first_free img))
  where
    go : (b c : Bool) → pick b (Err DiskFull) (pick c (Ok (first_free img)) (Err BadWrite)) ≡ Ok new → first_free img ≡ new
    go true c h = clash (cc)
    go false true h = cc
    go false false h = clash (cc)

pub on-free : (img : List ℕ) (M S : ℕ) (next : Outcome) → on_free img M S next ≡ unless (eqb (free_fault img M S) 0) (free_fault img M S) next
unfolding free_fault
on-free img M S next = on-sector img M S (λ a. next) ∙ go (free_sector img M S)
  where
    go : (r : Result ℕ Refusal) → on_ok r (λ a. next) ≡ unless (eqb (number_of r) 0) (number_of r) next
    go (Ok a) = refl
    go (Err e) = rw (code-not e) refl

-- ---- for a file

-- a position that a sector may follow: 0,0 or a data sector
unfoldable pub follows : ℕ → ℕ → ℕ → Bool
follows M S a = pick (eqb a 0) true (is_data M S a)

unfoldable pub block_of : List ℕ → ℕ → Block
block_of tab f = record { position = position_in tab f; start = start_in tab f; size = size_in tab f }

unfoldable pub longer_of : Block → ℕ → Longer
longer_of block new = record {
  former = block.position;
  new = new;
  start = pick (eqb block.start 0) new block.start;
  size = block.size + 1;
}

unfoldable pub longer_stores : List ℕ → ℕ → ℕ → Longer → List Store
longer_stores img S slot file =
    off_free img S
    ∷ store (index S file.new) 0 (fresh file.size)
    ∷ (linked (eqb file.former 0) (index S file.former) file.new
    ++ (store (slot / 256) (slot % 256 + 13) (six file.start file.new file.size) ∷ []))

abbrev pub longer_puts : Longer → List Put
longer_puts file = take_puts file.new file.start file.size

unfoldable pub take_by : List ℕ → ℕ → ℕ → ℕ → Block → Outcome
take_by img M S slot block =
    unless (flag (follows M S block.position)) 10
    (on_ok (free_sector img M S) (λ new.
    when (eqb block.size 65535) 10
    (done 0 (longer_stores img S slot (longer_of block new)) (longer_puts (longer_of block new)))))

-- it is the rule
pub take-for : (img tab : List ℕ) (M S f slot : ℕ) → take_for img tab M S f slot ≡ take_by img M S slot (block_of tab f)
unfolding take_for take_stores take_by longer_stores longer_of block_of follows flag
take-for img tab M S f slot =
    ap (unless (follows M S (position_in tab f)) 10) (on-sector img M S (λ new. when (eqb (size_in tab f) 65535) 10
    (done 0 (longer_stores img S slot (longer_of (block_of tab f) new)) (longer_puts (longer_of (block_of tab f) new)))))

-- an outcome's number and stores, of which nothing is in byte 1 yet
abbrev pub taken : Outcome → Effect
taken (refuse e) = effect e 0 [] []
taken (done b ss ps) = effect 0 b ss ps
