use Rattle.files.proofs.Laws.{write-opened}
use Rattle.files.proofs.open_write_at.Goals as goal

pub returns : goal.returns
returns c = search write-opened
