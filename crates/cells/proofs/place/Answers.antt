use Rattle.std.proofs.Common.{sym, arith}
use Rattle.laws.specs.Bytes.{over-one, over-out}
use Rattle.cells.proofs.place.Goals as goal

pub returns-then-i-saturating_sub : goal.returns-then-i-saturating_sub
returns-then-i-saturating_sub g c = sym (over-one _ _ _)

pub returns-else-i-saturating_sub : goal.returns-else-i-saturating_sub
returns-else-i-saturating_sub g c = sym (over-out _ _ _ (omega (arith, c.if-i-saturating_sub.false, c.saturating_sub.ensures)))
