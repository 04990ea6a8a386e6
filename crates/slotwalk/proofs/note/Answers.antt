use Rattle.slotwalk.proofs.Laws.{code-fit, note-large, note-done}
use Rattle.slotwalk.proofs.note.Goals as goal

pub overflow_add-code_of : goal.overflow_add-code_of
overflow_add-code_of c = search code-fit

pub returns : goal.returns
returns c = search note-done

pub returns-in_default : goal.returns-in_default
returns-in_default c = note-large _ _ _ c.code_of.ensures c.try_from.result c.try_from.ensures c.in_default.not-Ok
