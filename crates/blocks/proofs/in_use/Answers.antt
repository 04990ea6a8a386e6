use Rattle.std.proofs.Common.{◌≡◌, ◌∙◌, ap, refl, arith}
use Rattle.rules.specs.Block.{used_below, in_use}
use Rattle.blocks.proofs.Laws.{used-here, used_on}
use Rattle.blocks.proofs.in_use.Goals as goal

pub loop-n-init : goal.loop-n-init
unfolding used_below
loop-n-init c = refl

pub returns-then-is_user : goal.returns-then-is_user
unfolding in_use
returns-then-is_user c = used-here _ _ _ _ 8 c.is_user.ensures c.if-is_user.true (omega (arith, c.loop-n-test.true))

pub loop-n-preserved : goal.loop-n-preserved
loop-n-preserved c = search used_on

pub returns : goal.returns
unfolding in_use
returns c = let e : c.loop-n.n ≡ 8 = omega (arith, c.loop-n-test.false, c.loop-n.auto.n-end) in c.loop-n.invariant ∙ ap (used_below _ _ _) e
