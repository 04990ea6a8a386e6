use Rattle.census_tool.specs.Lines.{report-done, report-err}
use Rattle.census_tool.proofs.report.Goals as goal

pub returns-in-Ok : goal.returns-in-Ok
returns-in-Ok c = rw (c.push_lines.ensures, c.text-out.ensures, c.deref.ensures.0, c.line.ensures) (report-done _ _ _ c.in-Ok.is)

pub returns-in-Err : goal.returns-in-Err
returns-in-Err c = rw (c.text.ensures, c.deref-in-Err.ensures.0, c.line-in-Err.ensures, c.number.ensures) (report-err _ _ _ c.in-Err.is)
