use Rattle.std.proofs.Common.{rules}
use Rattle.std.proofs.lemmas.Result.{err_from_is_err_and}
use Rattle.census_laws.specs.Table.{entering}
use Rattle.slotwalk.proofs.Laws.{enters-clash, enters-next}
use Rattle.slotwalk.proofs.enter_all.Goals as goal

pub returns-in_err-enter : goal.returns-in_err-enter
returns-in_err-enter c =
    let p = err_from_is_err_and c.from_residual.result c.from_residual.ensures.1 in
    rw (p.1, p.2) (search (enters-clash, c.in_err-enter.was, c.in-Some.ensures.steps))

pub loop-slot-preserved : goal.loop-slot-preserved
loop-slot-preserved c = search (rules, enters-next, c.in_ok-enter.was, c.in-Some.ensures.steps)

pub returns : goal.returns
unfolding entering
returns c = search rules
