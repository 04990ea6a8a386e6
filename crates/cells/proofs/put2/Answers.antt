use Rattle.std.proofs.Common.{sym}
use Rattle.laws.specs.Bytes.{over-out, over-one}
use Rattle.cells.proofs.Laws.{two-stored}
use Rattle.cells.proofs.put2.Goals as goal

pub returns-then-at-dst : goal.returns-then-at-dst
returns-then-at-dst c = two-stored _ _ _ _ _ _ c.to_be_bytes.ensures (sym (over-one _ _ _)) c.put.ensures

pub returns-else-at-dst : goal.returns-else-at-dst
returns-else-at-dst c = sym (over-out _ _ _ c.if-at-dst.false)
