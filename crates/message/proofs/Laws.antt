-- Laws that the proof of the error text cites: its two ways out.
use mathlib.Core.Path.{◌≡◌, refl}
use mathlib.Core.List.{List, [], ◌∷◌}
use Prim.Native.Nat.{ℕ, ◌/◌, ◌≤◌, ◌<◌}
use lib.ListN.{length}
use borrow.Author.Tests.{le-leb, lt-leb}
use Rattle.rules.specs.Bytes.{over}
use Rattle.rules.specs.Outcome.{told}
use Rattle.rules.specs.Text.{digit, error_line, error_text}
use Rattle.laws.specs.Bytes.{over-append}

-- "DISK ERROR #"
abbrev heading : List ℕ
heading = 68 ∷ 73 ∷ 83 ∷ 75 ∷ 32 ∷ 69 ∷ 82 ∷ 82 ∷ 79 ∷ 82 ∷ 32 ∷ 35 ∷ []

pub text-short : (text : List ℕ) (e : ℕ) → length text < 15 → told 40 text ≡ error_text text e
unfolding error_text
text-short text e h = rw (lt-leb 15 (length text) h) refl

pub text-line : (text : List ℕ) (e : ℕ) {t t' : List ℕ} (ds : List ℕ) → ds ≡ digit (e / 100) ∷ digit (e / 10) ∷ digit e ∷ [] → t' ≡ over t 12 ds → t ≡ over text 0 heading → 15 ≤ length text → told 0 t' ≡ error_text text e
unfolding error_text error_line
text-line text e ds d p q h = rw (le-leb 15 (length text) h, p, d, q, ← over-append text 0 heading (digit (e / 100) ∷ digit (e / 10) ∷ digit e ∷ [])) refl
