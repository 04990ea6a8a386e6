-- What the library prints of a number below 100,000 is the number in decimal.
use Rattle.std.specs.Prelude.{◌≡◌, List, [], ◌∷◌, ◌++◌, ℕ, suc, ◌*◌, ◌/◌, ◌≤◌, ◌<◌, ◌^◌}
use Rattle.std.specs.Fmt.{decimal as shown}
use Rattle.std.proofs.Common.{ap, ◌∙◌, inl, inr, arith, lt-ltb, le-ltb}
use Rattle.std.proofs.lemmas.Bool.{cases_lt}
use Rattle.std.proofs.lemmas.Fmt.{decimal_digit, decimal_step}
use Rattle.rules.specs.Bytes.{one}
use Rattle.rules.specs.Text.{digit, decimal_by, decimal}

-- of one digit, and of one digit more
last-digit : (d n : ℕ) → n < 10 → shown n ≡ decimal_by (suc d) n
unfolding decimal_by one
last-digit d n h = rw (lt-ltb n 10 h) (decimal_digit n h ∙ ap (λ (v : ℕ). v ∷ []) (omega arith))

more-digits : (d n : ℕ) → 10 ≤ n → n < 2 ^ 64 → shown (n / 10) ≡ decimal_by d (n / 10) → shown n ≡ decimal_by (suc d) n
unfolding decimal_by one
more-digits d n h k e = rw (le-ltb n 10 h) (decimal_step n h k ∙ ap (λ (ds : List ℕ). ds ++ (digit n ∷ [])) e)

-- of d digits more than those that a bound allows
longer : (d m : ℕ) → m ≤ 10000 → ((k : ℕ) → k < m → shown k ≡ decimal_by d k) → (n : ℕ) → n < 10 * m → shown n ≡ decimal_by (suc d) n
longer d m b f n h = elim (cases_lt n 10) [ inl k ↦ last-digit d n k | inr k ↦ more-digits d n k (omega arith) (f (n / 10) (omega arith)) ]

pub decimal-is : (n : ℕ) → n < 100000 → shown n ≡ decimal n
unfolding decimal
decimal-is n h = longer 4 10000 (omega arith) (longer 3 1000 (omega arith) (longer 2 100 (omega arith) (longer 1 10 (omega arith) (last-digit 0)))) n h
