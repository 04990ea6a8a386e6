use native.Mathlib.Omega.{arith}
use Rattle.names.proofs.Laws.{letter-below, letter-upper, letter-between, letter-lower, letter-above}
use Rattle.names.proofs.is_letter.Goals as goal

pub returns-in-65-to-90 : goal.returns-in-65-to-90
returns-in-65-to-90 c = letter-upper _ (omega arith) (omega arith)

pub returns-in-65-to-90-2 : goal.returns-in-65-to-90-2
returns-in-65-to-90-2 c = letter-lower _ (omega arith) (omega arith)

pub returns-in_default : goal.returns-in_default
returns-in_default c = letter-below _ (omega arith)

pub returns-in_default-2 : goal.returns-in_default-2
returns-in_default-2 c = letter-between _ (omega arith) (omega arith)

pub returns-in_default-3 : goal.returns-in_default-3
returns-in_default-3 c = letter-above _ (omega arith)
