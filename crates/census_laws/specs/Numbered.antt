-- Owners as an output of 16-bit numbers can hold them: a slot's number as far as it goes, which is its number on every diskette.
use Rattle.std.specs.Prelude.{◌≡◌, refl, List, [], ◌∷◌, ◌++◌, ℕ, ◌+◌, ◌≤◌, ◌<◌, length, ltb}
use Rattle.std.proofs.Common.{sym, ap, ◌∙◌, arith, lt-ltb, le-ltb}
use Rattle.rules.specs.Bytes.{pick}
use Rattle.rules.specs.Census.{file_owners, files_owners}

unfoldable pub number_behind : ℕ → ℕ
number_behind k = pick (ltb k 65535) (k + 1) 65535

unfoldable pub files_numbered : List ℕ → ℕ → List ℕ → List ℕ
files_numbered img k [] = []
files_numbered img k (o ∷ os) = file_owners img o k ++ files_numbered img (number_behind k) os

pub behind_more : (k : ℕ) → k < 65535 → k + 1 ≡ number_behind k
unfolding number_behind
behind_more k h = rw (lt-ltb k 65535 h) refl

pub behind-most : (k : ℕ) → 65535 ≤ k → 65535 ≡ number_behind k
unfolding number_behind
behind-most k h = rw (le-ltb k 65535 h) refl

pub numbered : (img : List ℕ) (k : ℕ) (os : List ℕ) → k + length os ≤ 65535 → files_numbered img k os ≡ files_owners img k os
unfolding files_numbered files_owners
numbered img k [] h = refl
numbered img k (o ∷ os) h =
    let q : k < 65535 = omega arith in
    let r : k + 1 + length os ≤ 65535 = omega arith in
    ap (λ (l : List ℕ). file_owners img o k ++ l) (ap (λ (j : ℕ). files_numbered img j os) (sym (behind_more k q)) ∙ numbered img (k + 1) os r)
