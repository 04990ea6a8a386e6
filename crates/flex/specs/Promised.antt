-- What each exported entry promises: its answer r and every byte that it leaves, by the rules. The `ensures` of src/lib.rt say these predicates
-- and nothing else; that no second outcome fits one stands in Promises.antt.
use Rattle.std.specs.Prelude.{◌≡◌, List, ℕ}
use Rattle.rules.specs.Stores.{stored, puts}
use Rattle.rules.specs.Outcome.{answer, given, on_image, on_block, told}
use Rattle.rules.specs.Block.{block_at, preset, extension}
use Rattle.rules.specs.Call.{call}
use Rattle.rules.specs.Census.{survey}
use Rattle.rules.specs.Text.{error_text}
use Rattle.rules.specs.Format.{format}
use Rattle.rules.specs.Repair.{repair}
use Rattle.rules.specs.Host.{packed, host_census}

-- preset in the table tab: block n, offset i, value v. It leaves the table t
pub record PresetPromise (tab : List ℕ) (n i v r : ℕ) (t : List ℕ) : Type 0 where
  pub answers : r ≡ answer (preset tab n i v)
  pub tables : t ≡ puts tab (block_at n) (on_block (preset tab n i v))

-- default extension in the table tab: block n, code c. It leaves the table t
pub record ExtensionPromise (tab : List ℕ) (n c r : ℕ) (t : List ℕ) : Type 0 where
  pub answers : r ≡ answer (extension tab n c)
  pub tables : t ≡ puts tab (block_at n) (on_block (extension tab n c))

-- the call of block n with the byte b: r is 256 times the answer plus the byte given back. It leaves the image i and the table t
pub record CallPromise (img tab : List ℕ) (n b r : ℕ) (i t : List ℕ) : Type 0 where
  pub answers : r ≡ packed (answer (call img tab n b)) (given (call img tab n b))
  pub images : i ≡ stored img (on_image (call img tab n b))
  pub tables : t ≡ puts tab (block_at n) (on_block (call img tab n b))

-- the census with outputs of bytes, xs and ys: it leaves us and ws in them
abbrev pub CensusPromise : List ℕ → List ℕ → List ℕ → ℕ → List ℕ → List ℕ → Type 0
CensusPromise img xs ys r us ws = survey r us ws ≡ host_census img xs ys

-- the error text of the number e in lent bytes m: it leaves t in them
abbrev pub TextPromise : List ℕ → ℕ → ℕ → List ℕ → Type 0
TextPromise m e r t = told r t ≡ error_text m e

-- format of an image img lent: last track M, sectors per track S, label, volume number, date. It leaves i in it
abbrev pub FormatPromise : List ℕ → ℕ → ℕ → List ℕ → ℕ → ℕ → ℕ → ℕ → ℕ → List ℕ → Type 0
FormatPromise img M S label volume month day year r i = told r i ≡ format img M S label volume month day year

-- repair of an image img lent, with the table tab. It leaves i in it
abbrev pub RepairPromise : List ℕ → List ℕ → ℕ → List ℕ → Type 0
RepairPromise img tab r i = told r i ≡ repair img tab
