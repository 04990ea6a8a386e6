-- The numbers of an accepted census fit two bytes.
use Rattle.std.proofs.Common.{sym, inl, inr, arith}
use Rattle.std.specs.Prelude.{List, [], ◌∷◌, ℕ, suc, ◌<◌, length, get_or}
use Rattle.rules.specs.Bytes.{zeros}
use Rattle.rules.specs.Image.{last_track, per_track}
use Rattle.rules.specs.Census.{listed, owners}
use Rattle.laws.specs.Each.{Each, each-so}
use Rattle.laws.specs.Addresses.{Shape, Shaped, data-few}
use Rattle.laws.specs.Slots.{numbers_fit}
use Rattle.laws.specs.Bytes.{length-zeros}
use Rattle.laws.specs.Surveys.{SaneImage, data_sectors, census-accepts}
use Rattle.laws.proofs.Surveys.{listed_below}
use Rattle.census_laws.specs.Accepted.{Owner, accepted}

each_of : (P : ℕ → Type 0) (xs : List ℕ) → ((i : ℕ) → i < length xs → P (get_or xs i 0)) → Each P xs
each_of P [] h = tt
each_of P (x ∷ xs) h = (h 0 (omega arith), each_of P xs (λ i k. h (suc i) (omega arith)))

-- 0, the directory's mark, or the number of a slot
owner-low : (img : List ℕ) (M S : ℕ) → Shape M S → (v : ℕ) → Owner img M S v → v < 65536
owner-low img M S z v (inl e) = omega (arith, e)
owner-low img M S z v (inr (inl e)) = omega (arith, e)
owner-low img M S z v (inr (inr p)) = omega (arith, p.1, p.2, numbers_fit img M S z)

module _ (img : List ℕ) (z : Shaped img) (s : SaneImage img) where
  pub listed-fit : Each (λ (x : ℕ). x < 65536) (listed img (last_track img) (per_track img))
  listed-fit =
      each-so (λ (x : ℕ). x < data_sectors img) (λ (x : ℕ). x < 65536) (listed img (last_track img) (per_track img))
      (λ x h. omega (arith, h, data-few (last_track img) (per_track img) z.shape)) (listed_below img (last_track img) (per_track img) z.shape.sectors s)

  pub owners-fit : Each (λ (x : ℕ). x < 65536) (owners img (last_track img) (per_track img))
  owners-fit =
      let N = data_sectors img in
      let a = accepted img (listed img (last_track img) (per_track img)) (owners img (last_track img) (per_track img)) (zeros N) (zeros N) (sym (census-accepts img (zeros N) (zeros N) z s (length-zeros N) (length-zeros N))) in
      each_of (λ (x : ℕ). x < 65536) (owners img (last_track img) (per_track img))
      (λ i k. owner-low img (last_track img) (per_track img) z.shape (get_or (owners img (last_track img) (per_track img)) i 0) (a.owner i k))
