use Rattle.std.proofs.Common.{◌∙◌, arith}
use Rattle.census_tool.specs.Decimal.{decimal-is}
use Rattle.census_tool.proofs.decimal.Goals as goal

pub returns : goal.returns
returns c = c.text.ensures ∙ c.format.ensures.text ∙ decimal-is _ (omega (arith, c.ranges.n))
