-- What is printed, by what is found of an image: too long, of no right shape, or its census.
use Rattle.std.specs.Prelude.{◌≡◌, Option, Some, None, List, ℕ, ◌*◌, ◌≤◌, ◌<◌, length}
use Rattle.std.proofs.Math.Path.{refl}
use Rattle.std.proofs.Common.{◌∙◌, arith, lt-ltb, le-ltb}
use Rattle.rules.specs.Bytes.{zeros}
use Rattle.rules.specs.Image.{last_track, per_track}
use Rattle.rules.specs.Census.{census}
use Rattle.rules.specs.Text.{line, report, too_long, printed}
use Rattle.laws.specs.Addresses.{shape_is}
use Rattle.disk.specs.Loaded.{shape_of}
use Rattle.disk.specs.Shapes.{some_is, none-is}
use Rattle.disk.specs.declared.Shape.{Shape}

module _ (img : List ℕ) where
  pub printed-long : 64000 < length img → too_long ≡ printed img
  unfolding printed
  printed-long h = rw (lt-ltb 64000 (length img) h) refl

  module _ (h : length img ≤ 64000) {s : Option Shape} (e : s ≡ shape_of img) where
    pub printed-wrong : s ≡ None → line 41 0 ≡ printed img
    unfolding printed census report
    printed-wrong k = rw (le-ltb 64000 (length img) h, none-is img e k) refl

    module _ {t : Shape} {n : ℕ} (k : s ≡ Some t) (q : n ≡ t.last * t.per) where
      pub printed-few : n ≤ 250
      printed-few =
          let r = some_is img e k in
          let m : n ≡ last_track img * per_track img = q ∙ rw (r.1, r.2) refl in
          omega (arith, m, h, (shape_is img r.0).long)

      pub printed-right : report (census img (zeros n) (zeros n)) ≡ printed img
      unfolding printed
      printed-right = let r = some_is img e k in rw (le-ltb 64000 (length img) h, q, r.1, r.2) refl
