use Rattle.cells.proofs.Laws.{six-row}
use Rattle.cells.proofs.put6.Goals as goal

pub returns : goal.returns
returns c = six-row _ _ _ _ _ _ _ _ _ c.to_be_bytes.ensures c.to_be_bytes-2.ensures c.to_be_bytes-3.ensures _ c.as_flattened.ensures.value c.store.ensures
