use Rattle.flex.proofs.Hosting.{hosting_done, hosting-refused}
use Rattle.flex.proofs.flex_call.Goals as goal

pub returns-in-Ok : goal.returns-in-Ok
returns-in-Ok c = search hosting_done

pub returns-in-Err : goal.returns-in-Err
returns-in-Err c = search hosting-refused
