-- The tests before a chain is hung behind the free chain, on an entry and the free chain as the code holds them.
use Rattle.std.specs.Prelude.{Bool, true, false, ℕ, ◌+◌, eqb, ltb}
use Rattle.rules.specs.Bytes.{pick}
use Rattle.rules.specs.Image.{is_data}
use Rattle.disk.specs.declared.Free.{Free}
use Rattle.entries.specs.declared.Entry.{Entry}

-- "last free if the count isn't 0"
unfoldable pub is_end : ℕ → ℕ → Free → Bool
is_end M S free = pick (eqb free.count 0) true (is_data M S free.last)

-- "start and end, and last free if the count isn't 0, must be data sectors and the summed count at most 65,535"
unfoldable pub may_hang : ℕ → ℕ → Entry → Free → Bool
may_hang M S entry free =
    pick (is_data M S entry.start)
    (pick (is_data M S entry.end)
    (pick (is_end M S free)
    (pick (ltb 65535 (free.count + entry.size)) false true)
    false)
    false)
    false
