use Rattle.removal.specs.Hanging.{may_hang}
use Rattle.laws.specs.Tests.{tests}
use Rattle.removal.proofs.Laws.{small}
use Rattle.removal.proofs.may_hang.Goals.{then-is_data, else-is_data, then-is_data-2, else-is_data-2}
use Rattle.removal.proofs.may_hang.Goals as goal

pub returns-then-is_end : goal.returns-then-is_end
unfolding may_hang
returns-then-is_end c =
    elim c.if-is_data-2.branch [
      | then-is_data-2 w ↦ elim c.if-is_data.branch [
        | then-is_data u ↦ search (tests, small)
        | else-is_data u ↦ search tests
      ]
      | else-is_data-2 w ↦ search tests
    ]

pub returns-else-is_end : goal.returns-else-is_end
unfolding may_hang
returns-else-is_end c =
    elim c.if-is_data-2.branch [
      | then-is_data-2 w ↦ elim c.if-is_data.branch [
        | then-is_data u ↦ search tests
        | else-is_data u ↦ search tests
      ]
      | else-is_data-2 w ↦ elim c.if-is_data.branch [
        | then-is_data u ↦ search tests
        | else-is_data u ↦ search tests
      ]
    ]
