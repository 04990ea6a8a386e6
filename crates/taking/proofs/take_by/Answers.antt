use Rattle.std.specs.Prelude.{◌≡◌, eqb}
use Rattle.rules.specs.Bytes.{pick}
use Rattle.laws.specs.Tests.{tests}
use Rattle.laws.specs.Refusals.{passed_on}
use Rattle.taking.proofs.Laws.{by-stray, by-none, by-full, by-taken}
use Rattle.taking.proofs.take_by.Goals.{then-block-eq0, else-block-eq0}
use Rattle.taking.proofs.take_by.Goals as goal

pub returns-then-not-may_follow : goal.returns-then-not-may_follow
returns-then-not-may_follow c = search by-stray

pub returns-in_err-new : goal.returns-in_err-new
returns-in_err-new c = rw (passed_on _ _ c.from_residual.ensures.1) (search (by-none, c.in_err-new.was))

pub returns-then-block-eq65535 : goal.returns-then-block-eq65535
returns-then-block-eq65535 c = search (by-full, c.in_ok-new.was)

pub returns : goal.returns
returns c =
    let s : c.if-block-eq0.start ≡ pick (eqb c.args.block.start 0) c.in_ok-new.new c.args.block.start =
    elim c.if-block-eq0.branch [
      | then-block-eq0 w ↦ search tests
      | else-block-eq0 w ↦ search tests
    ] in
    search (by-taken, s, c.in_ok-new.was)
