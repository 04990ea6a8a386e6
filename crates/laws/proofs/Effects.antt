-- What every call leaves is lawful (specs/Effects says what that is).
use Rattle.std.specs.Prelude.{◌≡◌, true, ℕ, length, eqb}
use Rattle.std.proofs.Math.Path.{refl}
use Rattle.std.proofs.Common.{arith}
use mathlib.Core.List.{List}
use Rattle.rules.specs.Directory.{member}
use Rattle.rules.specs.Outcome.{settled}
use Rattle.rules.specs.Block.{block_at, function_in, activity_in}
use Rattle.rules.specs.Call.{asked, call}
use Rattle.laws.specs.Tests.{pick_all}
use Rattle.laws.specs.Each.{each_append, among, among-each}
use Rattle.laws.specs.Fair.{Fair, fair-more}
use Rattle.laws.specs.Facts.{Given, refusals, most_stores, in_checks, asked_numbers}
use Rattle.laws.proofs.Facts.{asked-fair}
use Rattle.laws.specs.Effects.{Lawful, Stated, answer_numbers, lawful-nothing, lawful-settled, on_table-all, refusal_numbers}

refusals-stated : (code act : ℕ) → Stated (refusals code act)
unfolding Stated refusals member among
refusals-stated code act =
    pick_all Stated (eqb code 0) _ _ (pick_all Stated (eqb act 1) _ _ refl refl)
    (pick_all Stated (eqb code 1) _ _ refl
    (pick_all Stated (eqb code 2) _ _ refl
    (pick_all Stated (eqb code 4) _ _ refl
    (pick_all Stated (eqb code 5) _ _ refl
    (pick_all Stated (eqb code 6) _ _ refl
    (pick_all Stated (eqb code 7) _ _ refl
    (pick_all Stated (eqb code 8) _ _ refl
    (pick_all Stated (eqb code 9) _ _ refl
    (pick_all Stated (eqb code 10) _ _ refl
    (pick_all Stated (eqb code 12) _ _ refl refl))))))))))

-- what `asked` may come to, with all numbers together
asked-stated : (img tab : List ℕ) (f b : ℕ)
    → Fair (Given img tab b) (length img) refusal_numbers (most_stores (function_in tab f) (activity_in tab f)) (asked img tab f b)
unfolding Stated member among
asked-stated img tab f b =
    fair-more (Given img tab b) (length img) (asked_numbers img tab f b) refusal_numbers _ _ (asked img tab f b)
    (each_append (λ (e : ℕ). member e refusal_numbers ≡ true) in_checks (refusals (function_in tab f) (activity_in tab f))
    (among-each in_checks refusal_numbers refl)
    (among-each (refusals (function_in tab f) (activity_in tab f)) refusal_numbers (refusals-stated (function_in tab f) (activity_in tab f))))
    (omega arith) (asked-fair img tab f b)

pub call-lawful : (img tab : List ℕ) (n b : ℕ)
    → Lawful (Given img tab b) img tab (block_at n) answer_numbers (most_stores (function_in tab (block_at n)) (activity_in tab (block_at n))) (call img tab n b)
unfolding call member
call-lawful img tab n b =
    on_table-all (Lawful (Given img tab b) img tab (block_at n) answer_numbers _) tab n (settled (asked img tab (block_at n) b))
    (lawful-settled img tab b (block_at n) _ (asked img tab (block_at n) b) (asked-stated img tab (block_at n) b))
    (lawful-nothing img tab b (block_at n) answer_numbers _ 13 refl)
