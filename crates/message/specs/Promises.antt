-- No second outcome fits the promise of the error text.
use Rattle.std.specs.Prelude.{List, ℕ}
use Rattle.rules.specs.Text.{error_text}
use Rattle.laws.specs.Single.{SingleMade, single-made}

pub error-text-single : (text : List ℕ) (e : ℕ) → SingleMade (error_text text e)
error-text-single text e = single-made (error_text text e)
