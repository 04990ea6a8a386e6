use Rattle.std.proofs.Common.{◌∙◌}
use Rattle.census_tool.specs.Lines.{report-sized}
use Rattle.census_tool.proofs.sized_report.Goals as goal

pub returns : goal.returns
returns c = c.census_report.ensures ∙ report-sized _ _ 250 c.requires
