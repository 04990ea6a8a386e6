use Rattle.census_laws.specs.Table.{seen-once, seen_twice}
use Rattle.slotwalk.proofs.has_twins.Goals as goal

pub returns-in-Ok : goal.returns-in-Ok
returns-in-Ok c = search seen-once

pub returns-in-Err-Twice : goal.returns-in-Err-Twice
returns-in-Err-Twice c = search seen_twice
