-- No second outcome fits the promise of a public function of this crate.
use Rattle.std.specs.Prelude.{List, ℕ}
use Rattle.rules.specs.Outcome.{left_of}
use Rattle.rules.specs.Repair.{repair}
use Rattle.laws.specs.Single.{Single, single}
use Rattle.repair_tool.specs.Reported.{closed, reported}

pub print-single : (img : List ℕ) → Single (reported img) × Single (left_of (repair img closed))
print-single img = (single (reported img), single (left_of (repair img closed)))
