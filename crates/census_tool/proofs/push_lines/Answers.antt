use Rattle.std.proofs.Common.{arith, ◌∙◌, ap, length, length-append}
use Rattle.std.proofs.lemmas.Slice.Zip.{Zip-more, either_empty_from_Zip}
use Rattle.census_tool.specs.Lines.{lines_more, lines_end}
use Rattle.census_tool.proofs.push_lines.Goals as goal

pub loop-sector-preserved : goal.loop-sector-preserved
loop-sector-preserved c =
    let z = Zip-more c.loop-sector.sector-iterator c.next.new.self _ (c.in-Some.sector, c.in-Some.owner) c.in-Some.is c.next.ensures.steps in
    let l = ap length c.push_str.ensures.bytes ∙ length-append c.loop-sector.out.bytes c.deref.result.now in
    (lines_more _ _ _ _ c.loop-sector.invariant.0 z.0 z.1 (rw (← c.line.ensures, ← c.deref.ensures.0) c.push_str.ensures.bytes), omega (arith, c.loop-sector.invariant.1, ap length z.0, l, c.deref.ensures.1))

pub returns : goal.returns
returns c =
    lines_end _ _ _ _ c.loop-sector.invariant.0 (either_empty_from_Zip c.loop-sector.sector-iterator c.next.new.self _ c.in-None.is c.next.ensures.steps)
