use Rattle.std.proofs.lemmas.Result.{err_from_is_err_and}
use Rattle.slotwalk.proofs.Laws.{enter-dead, enter-free, enter-clash}
use Rattle.slotwalk.proofs.enter.Goals as goal

pub returns-then-not-is_live : goal.returns-then-not-is_live
returns-then-not-is_live c = search enter-dead

pub returns-in_err-at : goal.returns-in_err-at
returns-in_err-at c =
    let p = err_from_is_err_and c.from_residual.result c.from_residual.ensures.1 in
    rw (p.1, p.2) (search (enter-clash, c.in_err-at.was))

pub returns : goal.returns
returns c = search (enter-free, c.in_ok-at.was)
