use Rattle.message.proofs.Laws.{text-short, text-line}
use native.Mathlib.Omega.{arith}
use Rattle.message.proofs.error_text.Goals as goal

pub returns-then-text-lt15 : goal.returns-then-text-lt15
returns-then-text-lt15 c = text-short _ _ (omega arith)

pub returns : goal.returns
returns c = search text-line
