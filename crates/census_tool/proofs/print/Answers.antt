use Rattle.std.proofs.Common.{◌∙◌}
use Rattle.census_tool.specs.Printed.{printed-long, printed-wrong, printed-few, printed-right}
use Rattle.rules.specs.Text.{too_long}
use Rattle.census_tool.proofs.print.Goals as goal

pub returns-then-image-gt64000 : goal.returns-then-image-gt64000
unfolding too_long
returns-then-image-gt64000 c = c.text.ensures ∙ printed-long _ c.if-image-gt64000.true

pub sized_report-requires : goal.sized_report-requires
sized_report-requires c = printed-few _ c.if-image-gt64000.false c.shape_of.ensures c.in-Some.is c.data_sectors.ensures

pub returns-in-Some : goal.returns-in-Some
returns-in-Some c =
    c.sized_report.ensures ∙ printed-right _ c.if-image-gt64000.false c.shape_of.ensures c.in-Some.is c.data_sectors.ensures

pub returns-in-None : goal.returns-in-None
returns-in-None c =
    c.text-in-None.ensures ∙ c.deref.ensures.0 ∙ c.line.ensures ∙ printed-wrong _ c.if-image-gt64000.false c.shape_of.ensures c.in-None.is
