use Rattle.fms.proofs.Layers.{shape-passed, shape-refused}
use Rattle.fms.proofs.on_shape.Goals as goal

pub returns-in-Ok : goal.returns-in-Ok
returns-in-Ok c = search shape-passed

pub returns-in-Err : goal.returns-in-Err
returns-in-Err c = search shape-refused
