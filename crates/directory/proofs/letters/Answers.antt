use mathlib.Core.Path.{◌∙◌}
use Rattle.directory.proofs.Laws.{letters-word}
use Rattle.directory.proofs.letters.Goals as goal

pub returns : goal.returns
returns c = c.from_be_bytes.ensures ∙ letters-word _ _ _ c.get_in.ensures c.get_in-2.ensures
