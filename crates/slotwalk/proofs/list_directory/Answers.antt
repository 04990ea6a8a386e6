use Rattle.std.proofs.Common.{rules}
use native.Mathlib.Omega.{arith}
use Rattle.census_laws.specs.Walks.{sectors}
use Rattle.slotwalk.proofs.Laws.{listed-next, listed-many}
use Rattle.slotwalk.proofs.list_directory.Goals as goal

pub loop-k-preserved : goal.loop-k-preserved
loop-k-preserved c = (tt, tt, search (listed-next, c.in-Some.ensures.steps), search (listed-many, arith, c.in-Some.ensures.steps))

pub returns : goal.returns
unfolding sectors
returns c = search rules
