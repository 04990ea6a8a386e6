use Rattle.std.proofs.Common.{refl}
use Rattle.names.proofs.Laws.{legal-no, legal-on}
use Rattle.names.proofs.legal_name.Goals as goal

pub returns-then-is_word : goal.returns-then-is_word
returns-then-is_word c = legal-on _ _ _ _ c.copy.ensures refl c.is_word.ensures c.if-is_word.true c.is_word-then-is_word.ensures

pub returns-else-is_word : goal.returns-else-is_word
returns-else-is_word c = legal-no _ _ _ _ c.copy.ensures refl c.is_word.ensures c.if-is_word.false
