use Rattle.std.proofs.Common.{arith, length-set}
use Rattle.census_laws.specs.Marks.{mark-large, mark-twice, mark_on, mark-end}
use Rattle.outputs.proofs.mark.Goals.{then-x-marks-via-then-x-marks, then-x-marks-via-else-x-marks+then-marks-x-ne0}
use Rattle.outputs.proofs.mark.Goals as goal

pub returns-then-x-marks : goal.returns-then-x-marks
returns-then-x-marks c =
    elim c.then-x-marks.branch [
      | then-x-marks-via-then-x-marks w ↦ search mark-large
      | then-x-marks-via-else-x-marks+then-marks-x-ne0 w ↦ search mark-twice
    ]

pub loop-number-preserved : goal.loop-number-preserved
loop-number-preserved c = (search mark_on, simp length-set (omega arith))

pub returns : goal.returns
returns c = search mark-end
