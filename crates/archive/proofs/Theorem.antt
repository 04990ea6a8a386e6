-- THE THEOREM at the top; its statement `Archive` stands in specs/.
use Rattle.std.proofs.Common.{sym}
use Rattle.std.proofs.Math.Path.{subst}
use Rattle.demands.specs.Demands.{Start}
use Rattle.demands.specs.Sequences.{Stage, stage, reached}
use Rattle.met.proofs.Sequences.{lasts}
use Rattle.served.specs.Entries.{service_of}
use Rattle.served.proofs.Served.{served}
use Rattle.archive.specs.{Archive, Handled, carried, says}

-- THE THEOREM
pub archive : Archive
archive h k x m st ds d p =
    let σ = service_of h in
    let s = served h k in
    let c = carried σ s ds (stage x) (record { machine = m; calls = tt }) d p in
    let l = lasts x st m.table.bytes ds c.proper in
    let place = sym c.place in
    let begins = subst (λ (g : Stage). Start g.start) place l.begins in
    record { begins = begins; says = says σ s (reached σ (stage x) ds) (subst Handled place c.handled) begins }
