use Rattle.std.proofs.Common.{◌∙◌}
use Rattle.laws.specs.Slots.{named-dead, named_live}
use Rattle.slotwalk.proofs.is_namesake.Goals as goal

pub returns-then-is_live : goal.returns-then-is_live
returns-then-is_live c = search named_live

pub returns-else-is_live : goal.returns-else-is_live
returns-else-is_live c = c.if-is_live.false ∙ search named-dead
