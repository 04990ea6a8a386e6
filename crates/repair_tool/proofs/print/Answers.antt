use Rattle.repair_tool.specs.Reported.{whole}
use Rattle.repair_tool.proofs.print.Goals as goal

pub returns-clause-text : goal.returns-clause-text
returns-clause-text c =
    rw (c.push_str-3.ensures.bytes, c.push_str-2.ensures.bytes, c.push_str.ensures.bytes, c.new-out.ensures, c.deref-3.ensures.0, c.print-2.ensures, c.deref-2.ensures.0, c.answer_line.ensures, c.deref.ensures.0, c.print.ensures)
    (whole _ c.closed_table.ensures c.repair-answer.ensures)
