use Rattle.std.proofs.Common.{arith}
use Rattle.census_tool.specs.Lines.{line-parts}
use Rattle.census_tool.proofs.line.Goals as goal

pub returns : goal.returns
returns c =
    rw (c.push-2.ensures.ascii (omega arith), c.push_str.ensures.bytes, c.push.ensures.ascii (omega arith), c.text-out.ensures, c.deref.ensures.0, c.deref-2.ensures.0, c.decimal.ensures, c.decimal-2.ensures)
    (line-parts _ _)
