use mathlib.Core.Path.{refl}
use native.Mathlib.Omega.{arith}
use Rattle.rules.specs.Image.{address_of}
use Rattle.disk.proofs.Laws.{address-none, digits-few}
use Rattle.disk.proofs.Shape.address_of.Goals as goal

pub returns-then-self-eq0 : goal.returns-then-self-eq0
unfolding address_of
returns-then-self-eq0 c = search address-none

pub overflow_cast-result-2 : goal.overflow_cast-result-2
unfolding address_of
overflow_cast-result-2 c = omega (arith, digits-few c.args.self.per c.args.k)

pub overflow_mul-result : goal.overflow_mul-result
unfolding address_of
overflow_mul-result c = omega (arith, digits-few c.args.self.per c.args.k)

pub overflow_cast-result-3 : goal.overflow_cast-result-3
unfolding address_of
overflow_cast-result-3 c = omega (arith, digits-few c.args.self.per c.args.k)

pub overflow_add-result-2 : goal.overflow_add-result-2
unfolding address_of
overflow_add-result-2 c = omega (arith, digits-few c.args.self.per c.args.k)

pub overflow_add-result-3 : goal.overflow_add-result-3
unfolding address_of
overflow_add-result-3 c = omega (arith, digits-few c.args.self.per c.args.k)

pub returns : goal.returns
unfolding address_of
returns c = refl
