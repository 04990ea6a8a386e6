-- 01, "Numbers given back": the order of checks for every FMS call; the call.
use Rattle.std.specs.Prelude.{Bool, List, ℕ, eqb}
use Rattle.rules.specs.Bytes.{pick, ◌or◌, within}
use Rattle.rules.specs.Image.{last_track, per_track, shape_right}
use Rattle.rules.specs.Outcome.{Outcome, unless, Effect, settled}
use Rattle.rules.specs.Block.{block_at, function_in, activity_in, drive_in, idle, on_table}
use Rattle.rules.specs.Transfer.{transfer, close}
use Rattle.rules.specs.Files.{open_read, open_write, rewind, open_directory, next_slot, put_slot, read_sector, write_sector, delete, rename}

-- "Function codes served at first: 0, 1, 2, 4, 5, 6, 7, 9, 12, 13."; 02, "functions 8 .. and 10"
unfoldable pub served : ℕ → Bool
served code =
    within 0 2 code or within 4 10 code or within 12 13 code

-- "an activity the function doesn't name; function 0 takes 1 or 2, close 1, 2 or 16"; 5 takes 1, 7 and 8 take 16, all others 0 or 16
unfoldable pub fits : ℕ → ℕ → Bool
fits code act =
    pick (eqb code 0) (within 1 2 act)
    (pick (eqb code 4) (within 1 2 act or eqb act 16)
    (pick (eqb code 5) (eqb act 1)
    (pick (within 7 8 code) (eqb act 16)
    (idle act))))

-- "a closed FCB in close gives 13 here"
unfoldable pub misfit : ℕ → ℕ → ℕ
misfit code act = pick (eqb code 4) (pick (eqb act 0) 13 18) 18

-- "Order for every FMS call: 13 for table or number, 16 shape, 1, 16 drive, 18 .., then each function's own order."
unfoldable pub checked : List ℕ → List ℕ → ℕ → Outcome → Outcome
checked img tab f next =
    unless (shape_right img) 16
    (unless (served (function_in tab f)) 1
    (unless (eqb (drive_in tab f) 0) 16
    (unless (fits (function_in tab f) (activity_in tab f)) (misfit (function_in tab f) (activity_in tab f))
    next)))

-- the function with a code that is served: 13 is the one left at the end
unfoldable pub perform : List ℕ → List ℕ → ℕ → ℕ → ℕ → ℕ → Outcome
perform img tab M S f b =
    pick (eqb (function_in tab f) 0) (transfer img tab M S f b)
    (pick (eqb (function_in tab f) 1) (open_read img tab M S f)
    (pick (eqb (function_in tab f) 2) (open_write img tab M S f)
    (pick (eqb (function_in tab f) 4) (close img tab M S f)
    (pick (eqb (function_in tab f) 5) rewind
    (pick (eqb (function_in tab f) 6) open_directory
    (pick (eqb (function_in tab f) 7) (next_slot img tab M S f)
    (pick (eqb (function_in tab f) 8) (put_slot img tab M S f)
    (pick (eqb (function_in tab f) 9) (read_sector img tab M S f)
    (pick (eqb (function_in tab f) 10) (write_sector img tab M S f)
    (pick (eqb (function_in tab f) 12) (delete img tab M S f)
    (rename img tab M S f)))))))))))

-- what the block that begins at f asks for
unfoldable pub asked : List ℕ → List ℕ → ℕ → ℕ → Outcome
asked img tab f b = checked img tab f (perform img tab (last_track img) (per_track img) f b)

-- the FMS call on block n, with the byte b
unfoldable pub call : List ℕ → List ℕ → ℕ → ℕ → Effect
call img tab n b = on_table tab n (settled (asked img tab (block_at n) b))
