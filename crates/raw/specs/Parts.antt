-- A part of put slot's rule, which a function of the code has for its promise.
use Rattle.std.specs.Prelude.{List, [], ◌∷◌, ℕ, ◌+◌, ◌/◌, ◌%◌}
use Rattle.rules.specs.Bytes.{part}
use Rattle.rules.specs.Stores.{store}
use Rattle.rules.specs.Outcome.{Outcome, done}
use Rattle.rules.specs.Block.{name_field}

-- put slot, once the slot of the block's place is known
unfoldable pub put_slot_at : List ℕ → ℕ → ℕ → Outcome
put_slot_at tab f slot = done 0 (store (slot / 256) (slot % 256) (part tab (f + name_field) 24) ∷ []) []
