-- The shape of an image and its free chain, as the structs that the code loads.
use Rattle.std.specs.Prelude.{Bool, false, Option, Some, None, List, ℕ, ◌+◌, ◌*◌, eqb, leb}
use Rattle.rules.specs.Bytes.{pick}
use Rattle.rules.specs.Image.{within_limits, last_track, per_track, shape_right, first_free, last_free, free_count}
use Rattle.disk.specs.declared.Shape.{Shape}
use Rattle.disk.specs.declared.Free.{Free}

-- what the shape asks of the length, M and S
unfoldable pub is_shape : ℕ → ℕ → ℕ → Bool
is_shape n M S =
    pick (leb 552 n)
    (pick (within_limits M S)
    (eqb n ((M + 1) * S * 256))
    false)
    false

-- M and S, where the shape is right
unfoldable pub shape_of : List ℕ → Option Shape
shape_of img = pick (shape_right img) (Some (record { last = last_track img; per = per_track img })) None

unfoldable pub free_of : List ℕ → Free
free_of img = record { first = first_free img; last = last_free img; count = free_count img }
