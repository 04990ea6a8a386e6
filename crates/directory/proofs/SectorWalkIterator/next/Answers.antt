use Rattle.std.proofs.Common.{rules}
use Rattle.laws.specs.Walk.{sectors-none}
use Rattle.directory.proofs.Laws.{sectors-to, sectors-end, progress}
use Rattle.directory.proofs.SectorWalkIterator.next.Goals as goal

pub returns-then-self-eq0-clause-steps : goal.returns-then-self-eq0-clause-steps
returns-then-self-eq0-clause-steps c = search (rules, sectors-none)

pub returns-in-To-clause-steps : goal.returns-in-To-clause-steps
returns-in-To-clause-steps c = search (rules, sectors-to)

pub returns-in-To-clause-goes : goal.returns-in-To-clause-goes
returns-in-To-clause-goes c = search (rules, sectors-to, progress)

pub returns-in_default : goal.returns-in_default
returns-in_default c = search (rules, sectors-end, progress)
