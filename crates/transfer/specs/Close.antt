-- Close in writing as the code does it: the two ways that store.
use Rattle.std.specs.Prelude.{List, [], ◌∷◌, ℕ, ◌+◌}
use Rattle.rules.specs.Bytes.{part}
use Rattle.rules.specs.Stores.{store}
use Rattle.rules.specs.Image.{index, is_data}
use Rattle.rules.specs.Outcome.{Outcome, done, unless, on_slot}
use Rattle.rules.specs.Block.{buffer_field}
use Rattle.rules.specs.Transfer.{slot_in, shut, mark}

-- position 0,0: "place (5), the slot's first byte becomes 255"
abbrev pub close_empty : List ℕ → List ℕ → ℕ → ℕ → ℕ → Outcome
close_empty img tab M S f = on_slot (slot_in img tab M S f) 5 5 (λ slot. done 0 (mark slot) shut)

-- "the buffer is stored as above (10)": at the position a
abbrev pub close_partial : List ℕ → ℕ → ℕ → ℕ → ℕ → Outcome
close_partial tab M S f a =
    unless (is_data M S a) 10 (done 0 (store (index S a) 4 (part tab (f + (buffer_field + 4)) 252) ∷ []) shut)
