use Rattle.blocks.proofs.Laws.{is-idle, not-idle}
use Rattle.blocks.proofs.activity.Activity.is_idle.Goals as goal

pub returns-in-Closed : goal.returns-in-Closed
returns-in-Closed c = search is-idle

pub returns-in_default : goal.returns-in_default
returns-in_default c = search not-idle
