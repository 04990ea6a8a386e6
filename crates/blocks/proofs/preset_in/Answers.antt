use Rattle.blocks.proofs.Laws.{preset-function, preset-never, preset-busy, preset-byte, preset-fits}
use Rattle.blocks.proofs.preset_in.Goals as goal

pub returns-then-offset-eq0 : goal.returns-then-offset-eq0
returns-then-offset-eq0 c = search preset-function

pub returns-then-not-is_presettable : goal.returns-then-not-is_presettable
returns-then-not-is_presettable c = search preset-never

pub returns-then-not-is_idle : goal.returns-then-not-is_idle
returns-then-not-is_idle c = search preset-busy

pub overflow_add-f-2 : goal.overflow_add-f-2
overflow_add-f-2 c = search preset-fits

pub returns : goal.returns
returns c = search preset-byte
