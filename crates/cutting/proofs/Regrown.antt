-- What repair makes of an image whose directory has grown, by what a call leaves there.
use Rattle.std.specs.Prelude.{◌≡◌, ℕ, length}
use Rattle.std.proofs.Math.Path.{ap, subst}
use Rattle.std.proofs.Common.{sym, ◌∙◌}
use mathlib.Core.List.{List, [], ◌∷◌}
use Rattle.rules.specs.Stores.{store, stored}
use Rattle.rules.specs.Directory.{directory}
use Rattle.laws.specs.Small.{Small}
use Rattle.laws.specs.Addresses.{Shape}
use Rattle.demands.specs.Ledger.{Ledger}
use Rattle.demands.specs.Service.{flex, Machine}
use Rattle.demands.specs.Demands.{sectors_in, Closed}
use Rattle.demands.specs.Cuts.{mended_of, Recovered}
use Rattle.met.proofs.Runs.{Fine}
use Rattle.cutting.specs.Kinds.{Longer}
use Rattle.cutting.proofs.Grown.{recovered, sectors-own, sectors-filled}

-- THE DIRECTORY, GROWN, WITHOUT THE NEW FILE: every file is as it was
pub grown-recovers : (M S : ℕ) (z : Shape M S) (y : Machine) (a : Ledger) → Fine M S y a → Small y.img → (m img' : List ℕ) → Longer S a y.img m img'
    → (tab : List ℕ) → length tab ≡ 2560 → Closed tab → Recovered flex y a 1 m tab
grown-recovers M S z y a f small m img' g tab tl shut =
    subst (λ (w : List ℕ). Recovered flex y a 1 w tab) (sym g.is) (recovered M S z y a f small g.taken g.rest g.free tab tl shut)

-- and the directory has the sectors that it has with the new file
pub grown-sectors : (M S : ℕ) (z : Shape M S) (y : Machine) (a : Ledger) → Fine M S y a → Small y.img → (m img' : List ℕ) → Longer S a y.img m img'
    → (tab : List ℕ) → length tab ≡ 2560 → Closed tab → sectors_in y (mended_of flex m tab) ≡ directory img' M S
grown-sectors M S z y a f small m img' g tab tl shut =
    ap (λ (w : List ℕ). sectors_in y (mended_of flex w tab)) g.is ∙ sectors-own M S z y a f small g.taken g.rest g.free tab tl shut
    ∙ sym (ap (λ (w : List ℕ). directory w M S) (g.filled ∙ ap (λ (w : List ℕ). stored w (store g.taken 16 g.entry ∷ [])) g.is)
    ∙ sectors-filled M S z y a f small g.taken g.rest g.free tab tl shut g.entry g.long)
