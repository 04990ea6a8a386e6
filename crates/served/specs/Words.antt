-- Numbers as bytes, two each, and read back.
use Rattle.std.specs.Prelude.{◌≡◌, refl, List, [], ◌∷◌, ◌++◌, ℕ, zero, suc, ◌+◌, ◌*◌, ◌/◌, ◌%◌, ◌<◌, length, replicate}
use Rattle.std.proofs.Common.{ap, ap₂, ◌∙◌, arith}
use Rattle.rules.specs.Bytes.{two}
use Rattle.rules.specs.Host.{packed, as_bytes}
use Rattle.laws.specs.Bytes.{two_back}
use Rattle.laws.specs.Each.{Each}
use Rattle.laws.specs.Small.{Small, small-nil, small-append, small-two}
use Rattle.served.specs.Entries.{words}

-- an answer and a byte, out of one number
pub unpacked : (r a g : ℕ) → r ≡ packed a g → g < 256 → (r / 256 ≡ a) × (r % 256 ≡ g)
unpacked r a g e h = (omega arith, omega arith)

-- numbers of two bytes come back
pub words_back : (xs : List ℕ) → Each (λ (x : ℕ). x < 65536) xs → words (as_bytes xs) ≡ xs
unfolding words as_bytes two
words_back [] h = refl
words_back (x ∷ xs) h = ap₂ (λ (v : ℕ) (l : List ℕ). v ∷ l) (two_back x _ _ h.0 refl refl) (words_back xs h.1)

two-of : (x y : ℕ) → x < 256 → y < 256 → two (x * 256 + y) ≡ x ∷ y ∷ []
unfolding two
two-of x y h k =
    let a : (x * 256 + y) / 256 % 256 ≡ x = omega arith in
    let b : (x * 256 + y) % 256 ≡ y = omega arith in
    ap₂ (λ (v w : ℕ). v ∷ w ∷ []) a b

-- and bytes of even length, read as numbers, come back: nothing is lost in reading them
pub bytes_back : (k : ℕ) (m : List ℕ) → length m ≡ 2 * k → Small m → as_bytes (words m) ≡ m
unfolding words as_bytes
bytes_back k [] l s = refl
bytes_back zero (x ∷ m) l s = absurd (omega arith)
bytes_back (suc k) (x ∷ []) l s = absurd (omega arith)
bytes_back (suc k) (x ∷ y ∷ m) l s =
    ap₂ (λ (u v : List ℕ). u ++ v) (two-of x y (s.at 0) (s.at 1)) (bytes_back k m (omega arith) (record { at = λ p. s.at (suc (suc p)) }))

-- 65,535 is 255 twice
pub words-full : (n : ℕ) → words (replicate (2 * n) 255) ≡ replicate n 65535
unfolding words
words-full zero = refl
words-full (suc n) =
    let e : 2 * suc n ≡ suc (suc (2 * n)) = omega arith in
    ap (λ (k : ℕ). words (replicate k 255)) e ∙ ap (λ (l : List ℕ). 65535 ∷ l) (words-full n)

pub small_bytes : (xs : List ℕ) → Small (as_bytes xs)
unfolding as_bytes
small_bytes [] = small-nil
small_bytes (x ∷ xs) = small-append (two x) (as_bytes xs) (small-two x) (small_bytes xs)
