use mathlib.Core.Path.{◌∙◌}
use Prim.Native.Nat.{◌+◌}
use Rattle.blocks.proofs.Laws.{place-is}
use Rattle.blocks.proofs.has_place.Goals as goal

pub returns : goal.returns
returns c =
    c.eq.ensures
    ∙ rw (c.to_be_bytes.ensures, c.to_be_bytes-2.ensures, c.address_of.ensures, c.get.ensures, c.get-2.ensures, c.get-3.ensures)
    (place-is c.args.table.now c.args.shape.per (c.args.f + 47) c.args.slot)
