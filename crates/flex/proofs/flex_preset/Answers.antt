use Rattle.flex.proofs.Hosting.{presetting}
use Rattle.flex.proofs.flex_preset.Goals as goal

pub returns : goal.returns
returns c = search presetting
