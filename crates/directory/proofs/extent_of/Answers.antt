use Rattle.std.proofs.Common.{rules}
use Rattle.directory.proofs.Laws.{extent-first}
use Rattle.directory.proofs.extent_of.Goals as goal

pub loop-k-init : goal.loop-k-init
loop-k-init c = search (rules, extent-first)
