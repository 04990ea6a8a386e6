use Rattle.repair.proofs.Laws.{file-dead, file-live}
use Rattle.repair.proofs.mend_file.Goals as goal

pub returns-then-not-is_live : goal.returns-then-not-is_live
returns-then-not-is_live c = search file-dead

pub returns : goal.returns
returns c = search file-live
