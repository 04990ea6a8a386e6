-- Lists of calls, through a host's service: the same log, image and table as through the demands'.
use Rattle.std.specs.Prelude.{◌≡◌}
use mathlib.Core.List.{List}
use Rattle.laws.specs.Each.{Each}
use Rattle.demands.specs.Ledger.{Call}
use Rattle.demands.specs.Service.{flex, Machine, run, log}
use Rattle.served.specs.Entries.{Entries, Kept, service_of}
use Rattle.served.proofs.Served.{served}
use Rattle.served.specs.Runs.{HeldMachine, Made, runs_same}

-- so does the service that a host builds from entries that keep their promises
pub served-runs : (h : Entries) → Kept h → (x : Machine) → HeldMachine x → (cs : List Call) → Each Made cs
    → (run (service_of h) x cs ≡ run flex x cs) × (log (service_of h) x cs ≡ log flex x cs)
served-runs h k = runs_same (service_of h) (served h k)
