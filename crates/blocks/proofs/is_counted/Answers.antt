use Rattle.blocks.proofs.Laws.{counts-writer, counts-reader, counts-other}
use Rattle.blocks.proofs.is_counted.Goals as goal

pub returns-in-Writing : goal.returns-in-Writing
returns-in-Writing c = search counts-writer

pub returns-in-Reading : goal.returns-in-Reading
returns-in-Reading c = search counts-reader

pub returns-in-Closed : goal.returns-in-Closed
returns-in-Closed c = search counts-other
