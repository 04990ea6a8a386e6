use Rattle.taking.proofs.Laws.{image-taken}
use Rattle.taking.proofs.take_image.Goals as goal

pub returns : goal.returns
returns c = rw image-taken cc
