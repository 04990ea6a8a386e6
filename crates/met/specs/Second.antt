-- How many sectors a file has that ends with a full one, and how many zeros follow: the step of demand 2 (proofs/Second) that stands on numbers alone.
use Rattle.std.specs.Prelude.{◌≡◌, ℕ, ◌+◌, ◌-◌, ◌*◌, ◌/◌, ◌%◌}
use native.Mathlib.Omega.{arith}

pub sectors-whole : (n k : ℕ) → n ≡ 252 * k → ((n + 251) / 252 ≡ k) × ((252 - n % 252) % 252 ≡ 0)
sectors-whole n k e = (omega arith, omega arith)
