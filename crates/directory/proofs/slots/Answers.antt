use Rattle.std.proofs.Common.{arith}
use Rattle.directory.proofs.Laws.{all-slots, no-slots}
use Rattle.directory.proofs.slots.Goals as goal

pub returns-in-Some : goal.returns-in-Some
returns-in-Some c = all-slots _ _ _ c.most_of.result c.most_of.ensures (omega (arith, c.most_of.type_inv)) c.in-Some.ensures.0 c.in-Some.ensures.1

pub returns-in-None : goal.returns-in-None
returns-in-None c = no-slots _ _ _ c.most_of.result c.most_of.ensures c.in-None.ensures
