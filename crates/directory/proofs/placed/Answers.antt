use Rattle.directory.proofs.Laws.{place-wrong, place-foreign, place-strange, place-between, place-there}
use Rattle.directory.proofs.placed.Goals as goal

pub returns-then-not-directory_right : goal.returns-then-not-directory_right
returns-then-not-directory_right c = search place-wrong

pub returns-then-not-is_member : goal.returns-then-not-is_member
returns-then-not-is_member c = search place-foreign

pub returns-then-own-a : goal.returns-then-own-a
returns-then-own-a c = search place-strange

pub returns-then-not-is_displacement : goal.returns-then-not-is_displacement
returns-then-not-is_displacement c = search place-between

pub returns : goal.returns
returns c = search place-there
