-- THE THEOREM: the promises give the service. The census's promise, then all seven; the others by themselves are in specs/Served.
use Rattle.std.specs.Prelude.{◌≡◌, List, ℕ, length, eqb}
use Rattle.std.proofs.Common.{ap, ap₂, ◌∙◌, eqb-true}
use Rattle.rules.specs.Image.{shape_right, last_track, per_track}
use Rattle.rules.specs.Census.{survey, listed, owners, concluded, census}
use Rattle.rules.specs.Host.{as_bytes, host_concluded, host_census}
use Rattle.laws.specs.Addresses.{Shaped, shape_is}
use Rattle.laws.specs.Surveys.{data_sectors, fault-is, length-bytes}
use Rattle.flex.specs.Promised.{CensusPromise}
use Rattle.demands.specs.Service.{flex}
use Rattle.served.specs.Entries.{Held, Output, read_back, Served}
use Rattle.served.specs.Words.{words_back, words-full, small_bytes}
use Rattle.served.specs.Numbers.{listed-fit, owners-fit}
use Rattle.served.specs.Served.{back_of, call-served, eqb-twice, extension-served, fault_of, pick-both, preset-served}

-- 42 to 46, or both lists
found : (img : List ℕ) → Shaped img
    → back_of (host_concluded img (last_track img) (per_track img) (fault_of img)) ≡ concluded img (last_track img) (per_track img) (fault_of img)
unfolding host_concluded concluded
found img z =
    pick-both (eqb (fault_of img) 0) _ _ _ _
    (λ e. let s = (fault-is img (last_track img) (per_track img)).1 (eqb-true (fault_of img) 0 e) in
    ap₂ (survey 0) (words_back (listed img (last_track img) (per_track img)) (listed-fit img z s)) (words_back (owners img (last_track img) (per_track img)) (owners-fit img z s)))
    (λ e. ap₂ (survey (fault_of img)) (words-full (data_sectors img)) (words-full (data_sectors img)))

module _ (img xs ys : List ℕ) (p : Output xs) (q : Output ys) where
  -- 40, 41
  kept : (e : ℕ) → back_of (survey e (as_bytes xs) (as_bytes ys)) ≡ survey e xs ys
  kept e = ap₂ (survey e) (words_back xs p.numbers) (words_back ys q.numbers)

  census-back : back_of (host_census img (as_bytes xs) (as_bytes ys)) ≡ census img xs ys
  unfolding host_census census
  census-back =
      rw (length-bytes xs, length-bytes ys, eqb-twice (length xs) (data_sectors img), eqb-twice (length ys) (data_sectors img))
      (pick-both (shape_right img) _ _ _ _
      (λ z. pick-both (eqb (length xs) (data_sectors img)) _ _ _ _
      (λ h. pick-both (eqb (length ys) (data_sectors img)) _ _ _ _ (λ k. found img (shape_is img z)) (λ k. kept 40))
      (λ h. kept 40))
      (λ z. kept 41))

  pub census-served : (r : ℕ) (us ws : List ℕ) → CensusPromise img (as_bytes xs) (as_bytes ys) r us ws → read_back (r, us, ws) ≡ flex.census img xs ys
  census-served r us ws c = ap back_of c ∙ census-back

pub served : Served
served h k = record {
  preset = λ tab n i v t a b c. preset-served tab n i v _ _ (k.preset tab n i v t a b c);
  extension = λ tab n c t a b. extension-served tab n c _ _ (k.extension tab n c t a b);
  call = λ img tab n b i t a c. call-served img tab n b _ _ _ (record { image = i.bytes; table = t.bytes; byte = c }) (k.call img tab n b i t a c);
  census = λ img xs ys i p q. census-served img xs ys p q _ _ _ (k.census img (as_bytes xs) (as_bytes ys) i (lent xs p) (lent ys q));
  text = λ m e t a. k.text m e t a;
  format = λ img w i a. k.format img w i a;
  repair = λ img tab i t. k.repair img tab i t;
}
  where
    lent : (zs : List ℕ) → Output zs → Held (as_bytes zs)
    lent zs o = record { bytes = small_bytes zs; long = o.long }
