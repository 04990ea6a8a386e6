use Rattle.std.proofs.lemmas.Result.{err_from_is_err_and}
use Rattle.files.proofs.Laws.{growth-none, growth-by, growth-longest}
use Rattle.files.proofs.growth.Goals as goal

pub returns-in_err-new : goal.returns-in_err-new
returns-in_err-new c =
    let p = err_from_is_err_and c.from_residual.result c.from_residual.ensures.1 in
    rw (p.1, p.2) (search (growth-none, c.in_err-new.was))

pub returns-then-sectors-most_of : goal.returns-then-sectors-most_of
returns-then-sectors-most_of c = search (growth-by, c.in_ok-new.was)

pub returns-else-sectors-most_of : goal.returns-else-sectors-most_of
returns-else-sectors-most_of c = search (growth-longest, c.in_ok-new.was)
