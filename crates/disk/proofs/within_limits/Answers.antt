use native.Mathlib.Omega.{arith}
use Rattle.disk.proofs.Laws.{no-track, many-tracks, few-sectors, by-sectors}
use Rattle.disk.proofs.within_limits.Goals as goal

pub returns-then-last-lt1 : goal.returns-then-last-lt1
returns-then-last-lt1 c = no-track _ _ (omega arith)

pub returns-then-last-gt79 : goal.returns-then-last-gt79
returns-then-last-gt79 c = many-tracks _ _ (omega arith) (omega arith)

pub returns-then-per-lt5 : goal.returns-then-per-lt5
returns-then-per-lt5 c = few-sectors _ _ (omega arith) (omega arith) (omega arith)

pub returns : goal.returns
returns c = by-sectors _ _ (omega arith) (omega arith) (omega arith)
