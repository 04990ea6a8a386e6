use Rattle.blocks.proofs.Laws.{uses-not, uses-same, uses-none}
use Rattle.blocks.proofs.is_user.Goals as goal

pub returns-then-is_counted : goal.returns-then-is_counted
returns-then-is_counted c = search uses-same

pub returns-else-is_counted : goal.returns-else-is_counted
returns-else-is_counted c = search uses-not

pub returns-in-Err : goal.returns-in-Err
returns-in-Err c = search uses-none
