use Rattle.census_bytes.proofs.Laws.{host-both}
use Rattle.census_bytes.proofs.on_numbers.Goals as goal

pub returns : goal.returns
returns c = host-both _ _ _ _ _ c.requires.0 c.requires.1 c.requires.2 c.requires.3 c.requires.4 c.census-answer.auto.sectors c.census-answer.auto.owners c.census-answer.ensures c.spread.ensures c.spread-2.ensures
