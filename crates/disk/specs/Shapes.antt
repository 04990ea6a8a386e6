-- What the shape that was found says of the image.
use Rattle.std.specs.Prelude.{◌≡◌, Bool, Option, Some, None, List, ℕ}
use Rattle.std.proofs.Math.Path.{refl, ap}
use Rattle.std.proofs.Math.Bool.{true, false}
use Rattle.std.proofs.Common.{arith}
use Rattle.rules.specs.Bytes.{pick}
use Rattle.rules.specs.Image.{shape_right, last_track, per_track}
use Rattle.disk.specs.declared.Shape.{Shape}
use Rattle.disk.specs.Loaded.{shape_of}

abbrev said : List ℕ → Shape
said img = record { last = last_track img; per = per_track img }

never : (z : Option Shape) (s : Shape) → z ≡ Some s → z ≡ None → ⊥
never z s p q = let c : ◌≡◌ {A = ℕ} 0 1 = cc in omega arith

-- M and S are the image's
abbrev pub Shaping : List ℕ → ℕ → ℕ → Type 0
Shaping img M S = (shape_right img ≡ true) × (M ≡ last_track img) × (S ≡ per_track img)

module _ (img : List ℕ) {z : Option Shape} (e : z ≡ shape_of img) where
  pub some_is : {s : Shape} → z ≡ Some s → Shaping img s.last s.per
  unfolding shape_of
  some_is {s} r = go (shape_right img) refl e
    where
      go : (t : Bool) → shape_right img ≡ t → z ≡ pick t (Some (said img)) None → Shaping img s.last s.per
      go true q w =
          let same : s ≡ said img = cc in
          (q, ap (λ (x : Shape). x.last) same, ap (λ (x : Shape). x.per) same)
      go false q w = absurd (never z s r w)

  pub none-is : z ≡ None → shape_right img ≡ false
  unfolding shape_of
  none-is r = go (shape_right img) refl e
    where
      go : (t : Bool) → shape_right img ≡ t → z ≡ pick t (Some (said img)) None → shape_right img ≡ false
      go true q w = absurd (never z (said img) w r)
      go false q w = q
