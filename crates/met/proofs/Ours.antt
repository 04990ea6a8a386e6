-- DEMAND 1 IS ENOUGH: every service that meets it is ours, entry by entry, and so meets all that ours does.
use Rattle.std.specs.Prelude.{◌≡◌}
use Rattle.std.proofs.Common.{sym, subst}
use Rattle.demands.specs.Service.{Service, flex}
use Rattle.demands.specs.Demands.{Demand1, Demand2, Demand3}
use Rattle.met.proofs.Second.{demand2}
use Rattle.met.proofs.Third.{demand3}

-- it is ours
pub ours : (σ : Service) → Demand1 σ → σ ≡ flex
ours σ d =
    λ i. record {
      preset = λ tab n j v. d.preset tab n j v i;
      extension = λ tab n c. d.extension tab n c i;
      call = λ img tab n b. d.does img tab n b i;
      census = λ img xs ys. d.census img xs ys i;
      text = λ m e. d.text m e i;
      format = λ img w. d.format img w i;
      repair = λ img tab. d.repair img tab i;
    }

-- what is demanded of a service, and met by ours, it meets
pub from_first : (P : Service → Type 0) → P flex → (σ : Service) → Demand1 σ → P σ
from_first P p σ d = subst P (sym (ours σ d)) p

-- so demand 1 alone gives demands 2 and 3
pub enough : (σ : Service) → Demand1 σ → Demand2 σ × Demand3 σ
enough σ d = (from_first Demand2 demand2 σ d, from_first Demand3 demand3 σ d)
