use Rattle.chainwalk.proofs.Laws.{walked-first, walked-bad, walked-on, walked-further, walked-elsewhere, walked-done}
use Rattle.chainwalk.proofs.walk.Goals as goal

pub loop-i-init : goal.loop-i-init
loop-i-init c = search walked-first

pub returns-then-not-is_data : goal.returns-then-not-is_data
returns-then-not-is_data c = search walked-bad

pub loop-i-preserved : goal.loop-i-preserved
loop-i-preserved c = search walked-on

pub returns-then-a-ne0 : goal.returns-then-a-ne0
returns-then-a-ne0 c = search walked-further

pub returns-then-before-end : goal.returns-then-before-end
returns-then-before-end c = search walked-elsewhere

pub returns : goal.returns
returns c = search walked-done
