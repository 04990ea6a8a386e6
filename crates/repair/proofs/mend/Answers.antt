use native.Mathlib.Omega.{arith}
use Rattle.repair.specs.Whole.{mend-is}
use Rattle.repair.proofs.mend.Goals as goal

pub returns : goal.returns
returns c = mend-is _ _ c.args.d.limits _ (record { at = λ p. omega (arith, c.slice_known-1.given p) }) c.requires.0 c.args.marks.now c.requires.1 c.fill.ensures c.mark_directory.ensures c.mend_files.ensures c.mend_free.ensures
