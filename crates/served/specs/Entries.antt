-- THE STATEMENT: the seven exported entries as a host sees them, what is known of them, the service that a host builds from them, and that it is
-- the demands' service.
use Rattle.std.specs.Prelude.{◌≡◌, List, [], ◌∷◌, ℕ, ◌+◌, ◌*◌, ◌/◌, ◌%◌, ◌<◌, length}
use Rattle.rules.specs.Outcome.{Out, out, Told, told}
use Rattle.rules.specs.Census.{Survey, survey}
use Rattle.rules.specs.Host.{as_bytes}
use Rattle.laws.specs.Each.{Each}
use Rattle.laws.specs.Small.{Small}
use Rattle.flex.specs.Promised.{PresetPromise, ExtensionPromise, CallPromise, CensusPromise, TextPromise, FormatPromise, RepairPromise}
use Rattle.demands.specs.Service.{Wanted, Service, flex}
use Rattle.demands.specs.Demands.{Typed}

-- ---- what a host can hold

-- 2^64: a length, a block's number, an offset and a code lie below it
abbrev pub limit : ℕ
limit = 18446744073709551616

-- bytes in a slice
pub record Held (m : List ℕ) : Type 0 where
  pub bytes : Small m
  pub long : length m < limit

-- an output of the census: numbers of two bytes, in a slice of bytes
pub record Output (xs : List ℕ) : Type 0 where
  pub numbers : Each (λ (x : ℕ). x < 65536) xs
  pub long : length (as_bytes xs) < limit

-- a blank diskette that it can ask for
pub record Askable (w : Wanted) : Type 0 where
  pub last : w.last < limit
  pub per : w.per < limit
  pub label : length w.label < limit
  pub volume : w.volume < 65536
  pub typed : Typed w

-- ---- the entries

-- a number, and the lent bytes afterwards
pub record Entries : Type 0 where
  pub flex_preset : List ℕ → ℕ → ℕ → ℕ → ℕ × List ℕ
  pub flex_extension : List ℕ → ℕ → ℕ → ℕ × List ℕ
  pub flex_call : List ℕ → List ℕ → ℕ → ℕ → ℕ × List ℕ × List ℕ
  pub flex_census : List ℕ → List ℕ → List ℕ → ℕ × List ℕ × List ℕ
  pub flex_error_text : List ℕ → ℕ → ℕ × List ℕ
  pub flex_format : List ℕ → Wanted → ℕ × List ℕ
  pub flex_repair : List ℕ → List ℕ → ℕ × List ℕ

-- every outcome fits its promise, whatever a host hands over
pub record Kept (h : Entries) : Type 0 where
  pub preset : (tab : List ℕ) (n i v : ℕ) → Held tab → n < limit → i < limit → v < 256
      → let o = h.flex_preset tab n i v in PresetPromise tab n i v o.0 o.1
  pub extension : (tab : List ℕ) (n c : ℕ) → Held tab → n < limit → c < limit
      → let o = h.flex_extension tab n c in ExtensionPromise tab n c o.0 o.1
  pub call : (img tab : List ℕ) (n b : ℕ) → Held img → Held tab → n < limit → b < 256
      → let o = h.flex_call img tab n b in CallPromise img tab n b o.0 o.1 o.2
  pub census : (img xs ys : List ℕ) → Held img → Held xs → Held ys
      → let o = h.flex_census img xs ys in CensusPromise img xs ys o.0 o.1 o.2
  pub text : (m : List ℕ) (e : ℕ) → Held m → e < 256
      → let o = h.flex_error_text m e in TextPromise m e o.0 o.1
  pub format : (img : List ℕ) (w : Wanted) → Held img → Askable w
      → let o = h.flex_format img w in FormatPromise img w.last w.per w.label w.volume w.month w.day w.year o.0 o.1
  pub repair : (img tab : List ℕ) → Held img → Held tab
      → let o = h.flex_repair img tab in RepairPromise img tab o.0 o.1

-- ---- the service that a host builds from them

-- the answer and the byte, out of one number
abbrev pub apart : ℕ × List ℕ × List ℕ → Out
apart o = out (o.0 / 256) (o.0 % 256) o.1 o.2

-- numbers of two bytes, high byte first, out of a list of bytes
unfoldable pub words : List ℕ → List ℕ
words [] = []
words (x ∷ []) = []
words (x ∷ y ∷ m) = (x * 256 + y) ∷ words m

abbrev pub read_back : ℕ × List ℕ × List ℕ → Survey
read_back o = survey o.0 (words o.1) (words o.2)

abbrev pub saying : ℕ × List ℕ → Told
saying o = told o.0 o.1

abbrev pub service_of : Entries → Service
service_of h = record {
  preset = λ tab n i v. saying (h.flex_preset tab n i v);
  extension = λ tab n c. saying (h.flex_extension tab n c);
  call = λ img tab n b. apart (h.flex_call img tab n b);
  census = λ img xs ys. read_back (h.flex_census img (as_bytes xs) (as_bytes ys));
  text = λ m e. saying (h.flex_error_text m e);
  format = λ img w. saying (h.flex_format img w);
  repair = λ img tab. saying (h.flex_repair img tab);
}

-- ---- the same service, to a host

pub record Same (σ τ : Service) : Type 0 where
  pub preset : (tab : List ℕ) (n i v : ℕ) → Held tab → n < limit → i < limit → v < 256 → σ.preset tab n i v ≡ τ.preset tab n i v
  pub extension : (tab : List ℕ) (n c : ℕ) → Held tab → n < limit → c < limit → σ.extension tab n c ≡ τ.extension tab n c
  pub call : (img tab : List ℕ) (n b : ℕ) → Held img → Held tab → n < limit → b < 256 → σ.call img tab n b ≡ τ.call img tab n b
  pub census : (img xs ys : List ℕ) → Held img → Output xs → Output ys → σ.census img xs ys ≡ τ.census img xs ys
  pub text : (m : List ℕ) (e : ℕ) → Held m → e < 256 → σ.text m e ≡ τ.text m e
  pub format : (img : List ℕ) (w : Wanted) → Held img → Askable w → σ.format img w ≡ τ.format img w
  pub repair : (img tab : List ℕ) → Held img → Held tab → σ.repair img tab ≡ τ.repair img tab

-- the promises, and nothing else, give the service that the demands speak of
abbrev pub Served : Type 0
Served = (h : Entries) → Kept h → Same (service_of h) flex
