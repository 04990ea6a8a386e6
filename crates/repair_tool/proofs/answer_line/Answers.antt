use Rattle.std.proofs.Common.{◌≡◌, ◌∙◌, sym, ap, arith}
use Rattle.rules.specs.Refusals.{number_of}
use Rattle.repair_tool.specs.Reported.{answer-parts}
use Rattle.repair_tool.proofs.answer_line.Goals as goal
use Rattle.repair_tool.proofs.answer_line.Goals.{in-Ok, in-Err}

pub returns : goal.returns
returns c =
    rw (c.push.ensures.ascii (omega arith), c.push_str-2.ensures.bytes, c.push_str.ensures.bytes, c.new-out.ensures, c.deref.ensures.0, c.decimal.ensures, ← number)
    (answer-parts _)
  where
    number : c.match-answer.number ≡ number_of c.args.answer
    number = elim c.match-answer.branch [ in-Ok w ↦ w.number-is ∙ sym (ap number_of w.in-Ok.is) | in-Err w ↦ w.number-is ∙ w.number-number.ensures ∙ sym (ap number_of w.in-Err.is) ]
