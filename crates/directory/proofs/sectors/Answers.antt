use Rattle.std.proofs.Common.{rules}
use Rattle.rules.specs.Directory.{directory}
use Rattle.directory.proofs.Laws.{sectors-short}
use Rattle.directory.proofs.sectors.Goals as goal

pub returns : goal.returns
unfolding directory
returns c = search (rules, sectors-short)
