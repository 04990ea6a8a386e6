-- No two lists of numbers have the same bytes.
use Rattle.std.specs.Prelude.{◌≡◌, List, ℕ, ◌<◌}
use Rattle.std.proofs.Common.{sym, ap, ◌∙◌}
use Rattle.rules.specs.Host.{as_bytes}
use Rattle.laws.specs.Each.{Each}
use Rattle.served.specs.Entries.{words}
use Rattle.served.specs.Words.{words_back}

-- so no two lists have the same bytes
pub bytes-injective : (xs ys : List ℕ) → Each (λ (x : ℕ). x < 65536) xs → Each (λ (x : ℕ). x < 65536) ys → as_bytes xs ≡ as_bytes ys → xs ≡ ys
bytes-injective xs ys h k e = sym (words_back xs h) ∙ ap words e ∙ words_back ys k
