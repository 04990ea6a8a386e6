use Rattle.slotwalk.proofs.Laws.{place-is}
use Rattle.std.proofs.Common.{rules}
use Rattle.slotwalk.proofs.first_place.Goals as goal

pub returns : goal.returns
returns c = search (rules, place-is)
