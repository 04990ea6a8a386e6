use Rattle.disk.specs.Shapes.{some_is}
use Rattle.census_bytes.proofs.Laws.{host-wrong}
use borrow.Author.Rules.{rules}
use Rattle.census_bytes.proofs.census_bytes.Goals as goal

pub on_shape-requires : goal.on_shape-requires
on_shape-requires c = some_is _ c.shape_of.ensures (search rules)

pub returns-in-None : goal.returns-in-None
returns-in-None c = search host-wrong
