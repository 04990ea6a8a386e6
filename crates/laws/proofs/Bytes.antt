-- A number's two bytes as a part of a list.
use Rattle.std.specs.Prelude.{◌≡◌, List, [], ◌∷◌, ℕ, ◌+◌, ◌<◌, get_or}
use Rattle.std.proofs.Common.{ap₂}
use Rattle.rules.specs.Bytes.{word_at, part, two}
use Rattle.laws.specs.Bytes.{word_bytes}

pub part-two : (m : List ℕ) (p v : ℕ) → word_at m p ≡ v → get_or m p 0 < 256 → get_or m (p + 1) 0 < 256 → part m p 2 ≡ two v
unfolding part two
part-two m p v e a b = let w = word_bytes m p v e a b in ap₂ (λ (x y : ℕ). x ∷ y ∷ []) w.0 w.1
