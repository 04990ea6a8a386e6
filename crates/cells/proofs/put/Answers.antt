use Rattle.std.proofs.Common.{sym}
use Rattle.laws.specs.Bytes.{over-one, over-out}
use Rattle.cells.proofs.put.Goals as goal

pub returns-then-at-s : goal.returns-then-at-s
returns-then-at-s g c = sym (over-one _ _ _)

pub returns-else-at-s : goal.returns-else-at-s
returns-else-at-s g c = sym (over-out _ _ _ c.if-at-s.false)
