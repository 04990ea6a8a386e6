use Rattle.disk.proofs.Laws.{link-none, link-some}
use Rattle.disk.proofs.link.Goals as goal

pub returns-then-none : goal.returns-then-none
returns-then-none c = search link-none

pub returns : goal.returns
returns c = search link-some
