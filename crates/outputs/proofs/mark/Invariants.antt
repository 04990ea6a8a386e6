use Rattle.std.proofs.Common.{◌≡◌, length, drop}
use Rattle.census_laws.specs.Marks.{marking}
use Rattle.outputs.proofs.mark.Given as goal

abbrev pub invariant-loop-number : goal.invariant-loop-number
invariant-loop-number l = (marking l.initial.marks l.numbers ≡ marking l.marks (drop l.number-index l.numbers)) × (length l.marks ≡ length l.initial.marks)
