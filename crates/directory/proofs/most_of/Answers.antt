use native.Mathlib.Omega.{arith}
use Rattle.directory.proofs.Laws.{product}
use Rattle.directory.proofs.most_of.Goals as goal

pub overflow_mul-behind : goal.overflow_mul-behind
overflow_mul-behind c = omega (arith, product c.args.shape.last c.args.shape.per (omega arith) (omega arith))

pub overflow_add-result : goal.overflow_add-result
overflow_add-result c = omega (arith, product c.args.shape.last c.args.shape.per (omega arith) (omega arith))
