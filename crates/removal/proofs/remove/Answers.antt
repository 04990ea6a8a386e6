use Rattle.removal.proofs.Laws.{hang-fits, removed-empty, remove-refused, removed}
use Rattle.removal.proofs.remove.Goals as goal

pub returns-then-entry-eq0 : goal.returns-then-entry-eq0
returns-then-entry-eq0 c = search removed-empty

pub returns-then-not-may_hang : goal.returns-then-not-may_hang
returns-then-not-may_hang c = search remove-refused

pub hang-requires : goal.hang-requires
hang-requires c = search hang-fits

pub returns : goal.returns
returns c = search removed
