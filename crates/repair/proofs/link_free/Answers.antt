use mathlib.Core.Path.{refl}
use native.Mathlib.Omega.{arith}
use Rattle.repair.proofs.Laws.{front-room, free_room, chaining-first, chaining-none, chaining-more, none-counted}
use borrow.Author.Rules.{rules}
use Rattle.repair.proofs.link_free.Goals as goal

pub loop-n-init : goal.loop-n-init
loop-n-init c = (search chaining-first, search none-counted, refl)

pub put_open-free-requires : goal.put_open-free-requires
put_open-free-requires c = free_room _ _ c.loop-n.free c.data_sectors-n.ensures c.data_sectors-n.type_inv c.loop-n-test.true c.loop-n.invariant.1

pub loop-n-preserved : goal.loop-n-preserved
loop-n-preserved c = (search chaining-more, search front-room, search rules)

pub returns : goal.returns
returns c = search chaining-none
