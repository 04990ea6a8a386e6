use Rattle.census_laws.specs.Walks.{file}
use Rattle.slotwalk.proofs.Laws.{if-dead, if-live}
use Rattle.slotwalk.proofs.list_file.Goals as goal

pub returns-then-not-is_live : goal.returns-then-not-is_live
unfolding file
returns-then-not-is_live c = search if-dead

pub returns : goal.returns
unfolding file
returns c = search if-live
