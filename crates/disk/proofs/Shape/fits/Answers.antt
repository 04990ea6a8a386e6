use native.Mathlib.Omega.{arith}
use Rattle.disk.proofs.Laws.{too_short, past-limits, by_length}
use borrow.Author.Rules.{rules}
use Rattle.disk.proofs.Shape.fits.Goals as goal

pub returns-then-length-lt552 : goal.returns-then-length-lt552
returns-then-length-lt552 c = too_short _ _ _ (omega arith)

pub returns-then-not-within_limits : goal.returns-then-not-within_limits
returns-then-not-within_limits c = search (rules, past-limits)

pub returns : goal.returns
returns c = search (rules, by_length)
