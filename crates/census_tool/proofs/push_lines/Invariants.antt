use Rattle.std.proofs.Common.{◌≡◌, ◌++◌, ◌+◌, ◌*◌, ◌≤◌, length}
use Rattle.std.specs.Slice.Iter.{iter_rest}
use Rattle.std.specs.Iterator.Adapters.{zip_first, zip_second}
use Rattle.rules.specs.Text.{lines}
use Rattle.census_tool.proofs.push_lines.Given as goal

abbrev pub invariant-loop-sector : goal.invariant-loop-sector
invariant-loop-sector l =
    (l.initial.out.bytes ++ lines l.sectors l.owners ≡ l.out.bytes ++ lines (iter_rest (zip_first l.sector-iterator)) (iter_rest (zip_second l.sector-iterator)))
    × (length l.out.bytes + 12 * length (iter_rest (zip_first l.sector-iterator)) ≤ 4096)
