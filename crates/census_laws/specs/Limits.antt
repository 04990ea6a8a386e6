-- How many data sectors a diskette of two bytes' M and S can have.
use Rattle.std.specs.Prelude.{ℕ, ◌*◌, ◌≤◌, ◌<◌}
use Rattle.std.proofs.Common.{mul-le-mul, arith}

pub few-data : (M S : ℕ) → M < 256 → S < 256 → M * S ≤ 65025
few-data M S h k = mul-le-mul {n₁ = M} {m₁ = S} {n₂ = 255} {m₂ = 255} (omega arith) (omega arith)
