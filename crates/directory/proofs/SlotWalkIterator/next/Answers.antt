use Rattle.std.proofs.Common.{rules, refl}
use Rattle.directory.specs.Walks.{slots_left}
use Rattle.directory.proofs.Laws.{slots-none, slots-next, slots-last, slots-to, slots-end, progress}
use Rattle.directory.proofs.SlotWalkIterator.next.Goals as goal

pub returns-then-slot-eq0-clause-steps : goal.returns-then-slot-eq0-clause-steps
returns-then-slot-eq0-clause-steps c = search (rules, slots-none)

pub returns-then-slot-lt232-clause-steps : goal.returns-then-slot-lt232-clause-steps
returns-then-slot-lt232-clause-steps c = slots-next _ _ _ _ _ c.if-slot-eq0.false c.if-slot-lt232.true refl

pub returns-then-slot-lt232-clause-goes : goal.returns-then-slot-lt232-clause-goes
returns-then-slot-lt232-clause-goes c = progress slots_left _ _ _ (slots-next _ _ _ _ _ c.if-slot-eq0.false c.if-slot-lt232.true refl)

pub returns-then-self-eq0-clause-steps : goal.returns-then-self-eq0-clause-steps
returns-then-self-eq0-clause-steps c = slots-last _ _ _ _ _ c.if-slot-eq0.false c.if-slot-lt232.false c.if-self-eq0.true

pub returns-then-self-eq0-clause-goes : goal.returns-then-self-eq0-clause-goes
returns-then-self-eq0-clause-goes c = progress slots_left _ _ _ (slots-last _ _ _ _ _ c.if-slot-eq0.false c.if-slot-lt232.false c.if-self-eq0.true)

pub returns-in-Ok-clause-steps : goal.returns-in-Ok-clause-steps
returns-in-Ok-clause-steps c = slots-to _ _ _ _ _ c.if-slot-eq0.false c.if-slot-lt232.false c.step_slot.ensures c.if-self-eq0.false c.in-Ok.is

pub returns-in-Ok-clause-goes : goal.returns-in-Ok-clause-goes
returns-in-Ok-clause-goes c = progress slots_left _ _ _ (slots-to _ _ _ _ _ c.if-slot-eq0.false c.if-slot-lt232.false c.step_slot.ensures c.if-self-eq0.false c.in-Ok.is)

pub returns-in-Err-clause-steps : goal.returns-in-Err-clause-steps
returns-in-Err-clause-steps c = slots-end _ _ _ _ _ c.if-slot-eq0.false c.if-slot-lt232.false c.step_slot.ensures c.in-Err.is

pub returns-in-Err-clause-goes : goal.returns-in-Err-clause-goes
returns-in-Err-clause-goes c = progress slots_left _ _ _ (slots-end _ _ _ _ _ c.if-slot-eq0.false c.if-slot-lt232.false c.step_slot.ensures c.in-Err.is)
