use Rattle.disk.proofs.Laws.{track-none, track-some}
use Rattle.disk.proofs.Shape.is_data.Goals as goal

pub returns-then-track-lt1 : goal.returns-then-track-lt1
returns-then-track-lt1 c = search track-none

pub returns : goal.returns
returns c = search track-some
