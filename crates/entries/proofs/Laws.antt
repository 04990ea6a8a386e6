-- Bytes read are a part; what a slot's attributes say; an entry stored field by field.
use mathlib.Core.Path.{◌≡◌, refl, sym, ap, ◌∙◌}
use mathlib.Core.List.{List, ◌++◌}
use Prim.Native.Nat.{ℕ, ◌+◌, ◌/◌, ◌%◌, ◌<◌, ◌≤◌}
use native.Mathlib.Omega.{arith}
use lib.ListN.{get_or, set, take, length, length-append}
use lib.Seq.{take_all}
use lib.Dec.{eqb}
use Rattle.rules.specs.Bytes.{part, over, one, two}
use Rattle.rules.specs.Directory.{attributes_at}
use Rattle.rules.specs.Files.{has_attribute}
use Rattle.std.proofs.lemmas.List.{get_or_default}
use Rattle.laws.specs.Bytes.{length_part, part_at, part-all, over-append}
use Rattle.cells.proofs.Laws.{laid-more, laid-end}
use Rattle.laws.specs.Lent.{over-exact}
use Rattle.entries.specs.Entries.{bytes_of}
use Rattle.entries.specs.Protections.{forbids, number_of}
use Rattle.entries.specs.declared.Entry.{Entry}
use Rattle.entries.specs.declared.Protection.{Protection}
use Rattle.entries.specs.declared.Protection.TheVariants.{Write, Delete, Read}

-- bytes read one by one: d is what is read after i of n
module _ (m d : List ℕ) (at n i : ℕ) (e : take i d ≡ take i (part m at n)) where
  pub read-more : {v : ℕ} → i < length d → i < n → v ≡ get_or m (at + i) 0 → take (i + 1) (set d i v) ≡ take (i + 1) (part m at n)
  read-more {v} h k q =
      let l : i < length (part m at n) = omega (arith, k, length_part m at n) in
      laid-more d (part m at n) i e v h l (q ∙ sym (part_at m at n i k) ∙ get_or_default (part m at n) i 0 v l)

  pub read-end : length d ≡ n → n ≤ i → i ≤ n → d ≡ part m at n
  read-end l h k = laid-end d (part m at n) i e n l h k ∙ take_all n (part m at n) (omega (arith, length_part m at n))

forbids-is : (p : Protection) (attributes : ℕ) → forbids p attributes ≡ has_attribute (number_of p) attributes
forbids-is Write attributes = refl
forbids-is Delete attributes = refl
forbids-is Read attributes = refl

pub attribute-read : (p : Protection) (img : List ℕ) (slot : ℕ) {a w : ℕ} → a ≡ get_or img (slot + 11) 0 → w ≡ number_of p → eqb (a / w % 2) 1 ≡ forbids p (attributes_at img slot)
unfolding has_attribute
attribute-read p img slot e q = rw (forbids-is p (attributes_at img slot), e, q) refl

-- ---- stored field by field

-- bytes stored behind others: one store of both
behind : (m vs ws : List ℕ) (p q : ℕ) {d d' : List ℕ} → d ≡ over m p vs → p + length vs ≡ q → d' ≡ over d q ws → d' ≡ over m p (vs ++ ws)
behind m vs ws p q {d} e k r =
    r ∙ ap (λ (x : ℕ). over d x ws) (sym k) ∙ ap (λ (x : List ℕ). over x (p + length vs) ws) e ∙ sym (over-append m p vs ws)

pub entry-stored : (m : List ℕ) (e : Entry) {n a b s t z c d o : List ℕ} → o ≡ over d 21 e.date → d ≡ over c 20 (one e.byte20)
    → c ≡ over z 19 (one e.byte19) → z ≡ over t 17 (two e.size) → t ≡ over s 15 (two e.end) → s ≡ over b 13 (two e.start) → b ≡ over a 12 (one e.byte12)
    → a ≡ over n 11 (one e.attributes) → n ≡ over m 0 e.name → length m ≡ 24 → length e.name ≡ 11 → length e.date ≡ 3 → o ≡ bytes_of e
unfolding bytes_of one two
entry-stored m e {n} {a} {b} {s} {t} {z} {c} po pd pc pz pt ps pb pa pn l ln ld =
    rw (part-all e.name 11 ln, part-all e.date 3 ld) (
    behind m e.name _ 0 11 pn (omega (arith, ln)) (
    behind n (one e.attributes) _ 11 12 pa refl (
    behind a (one e.byte12) _ 12 13 pb refl (
    behind b (two e.start) _ 13 15 ps refl (
    behind s (two e.end) _ 15 17 pt refl (
    behind t (two e.size) _ 17 19 pz refl (
    behind z (one e.byte19) _ 19 20 pc refl (
    behind c (one e.byte20) _ 20 21 pd refl po)))))))
    ∙ over-exact m _ (length-append e.name _ ∙ omega (arith, l, ln, ld)))
