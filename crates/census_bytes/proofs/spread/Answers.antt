use Rattle.census_bytes.proofs.Laws.{spread_none, spread-more}
use Rattle.census_bytes.proofs.spread.Goals as goal

pub loop-i-init : goal.loop-i-init
loop-i-init c = search spread_none

pub loop-i-preserved : goal.loop-i-preserved
loop-i-preserved c = search spread-more
