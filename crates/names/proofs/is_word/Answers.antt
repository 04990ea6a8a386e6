use Rattle.std.proofs.Common.{refl}
use Rattle.names.proofs.Laws.{word-none, word-no, word_on}
use Rattle.names.proofs.is_word.Goals as goal

pub returns-in-empty : goal.returns-in-empty
returns-in-empty c = word-none _ c.in-empty.len_below

pub returns-then-is_letter : goal.returns-then-is_letter
returns-then-is_letter c =
    word_on _ c.in-len1-up.len_at_least c.is_letter.ensures c.if-is_letter.true _ refl c.goes_on.ensures

pub returns-else-is_letter : goal.returns-else-is_letter
returns-else-is_letter c =
    word-no _ c.in-len1-up.len_at_least c.is_letter.ensures c.if-is_letter.false
