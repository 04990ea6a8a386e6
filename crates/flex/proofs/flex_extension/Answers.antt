use Rattle.flex.proofs.Hosting.{extending}
use Rattle.flex.proofs.flex_extension.Goals as goal

pub returns : goal.returns
returns c = search extending
