use Rattle.std.proofs.Common.{◌∙◌}
use Rattle.laws.specs.Slots.{named-dead, named_live}
use Rattle.directory.proofs.Laws.{named_other}
use Rattle.directory.proofs.is_named.Goals as goal

pub returns-then-get2-end : goal.returns-then-get2-end
returns-then-get2-end c = search named_other

pub returns-then-get2-third : goal.returns-then-get2-third
returns-then-get2-third c = search named_other

pub returns-then-is_live : goal.returns-then-is_live
returns-then-is_live c = search named_live

pub returns-else-is_live : goal.returns-else-is_live
returns-else-is_live c = c.if-is_live.false ∙ search named-dead
