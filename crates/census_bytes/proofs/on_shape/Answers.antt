use native.Mathlib.Omega.{arith}
use borrow.Author.Rules.{rules}
use Rattle.census_bytes.proofs.Laws.{all_sectors, host-first, host-second, few}
use Rattle.census_bytes.proofs.on_shape.Goals as goal

pub returns-then-sectors-n : goal.returns-then-sectors-n
returns-then-sectors-n c = host-first _ _ _ _ _ c.requires c.data_sectors-n.ensures c.if-sectors-n.true

pub returns-then-owners-n : goal.returns-then-owners-n
returns-then-owners-n c = host-second _ _ _ _ _ c.requires c.data_sectors-n.ensures c.if-sectors-n.false c.if-owners-n.true

pub with_room-requires : goal.with_room-requires
with_room-requires c =
    (c.requires.0, all_sectors c.args.image.now c.args.sectors.now c.args.owners.now _ _ c.requires c.data_sectors-n.ensures, c.if-n-le1000.true, omega arith, c.if-sectors-n.false, c.if-owners-n.false)

pub with_room-requires-2 : goal.with_room-requires-2
with_room-requires-2 c = (
  c.requires.0,
  all_sectors c.args.image.now c.args.sectors.now c.args.owners.now _ _ c.requires c.data_sectors-n.ensures,
  few c.args.image.now c.args.sectors.now c.args.owners.now _ _ c.requires c.data_sectors-n.ensures,
  omega arith,
  c.if-sectors-n.false,
  c.if-owners-n.false,
)
