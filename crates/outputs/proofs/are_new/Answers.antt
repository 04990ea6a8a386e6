use Rattle.census_laws.specs.Marks.{mark-cleared}
use Rattle.outputs.proofs.are_new.Goals as goal

pub returns : goal.returns
returns c = search mark-cleared
