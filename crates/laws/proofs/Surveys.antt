-- What the census lists are numbers of data sectors, each once.
use Rattle.std.specs.Prelude.{◌≡◌, true, List, ℕ, ◌*◌, ◌≤◌, ◌<◌, length}
use Rattle.rules.specs.Image.{first_free, last_free, free_count}
use Rattle.rules.specs.Directory.{directory, slots}
use Rattle.rules.specs.Census.{numbers_from, free_right, files_right, files_numbers, directory_numbers, listed}
use Rattle.laws.specs.Each.{each_append}
use Rattle.laws.specs.Slots.{directory-in}
use Rattle.laws.specs.Counting.{once-length}
use Rattle.laws.specs.Surveys.{Numbers, Sane, numbers-chain, numbers-directory, numbers-files}

-- of all chains
pub numbers-listed : (img : List ℕ) (M S : ℕ) → 5 ≤ S → free_right img M S ≡ true → files_right img M S (slots img M S) ≡ true → Numbers M S (listed img M S)
unfolding listed free_right
numbers-listed img M S s f h =
    each_append (λ (x : ℕ). x < M * S) (numbers_from img S (free_count img) (first_free img)) _
    (numbers-chain img M S (first_free img) (last_free img) (free_count img) f)
    (each_append (λ (x : ℕ). x < M * S) (directory_numbers S (directory img M S)) (files_numbers img S (slots img M S))
    (numbers-directory M S (directory img M S) (directory-in img M S s))
    (numbers-files img M S (slots img M S) h))

pub listed_below : (img : List ℕ) (M S : ℕ) → 5 ≤ S → Sane img M S → Numbers M S (listed img M S)
listed_below img M S h s = numbers-listed img M S h s.free s.files

pub length-listed : (img : List ℕ) (M S : ℕ) → 5 ≤ S → Sane img M S → length (listed img M S) ≡ M * S
length-listed img M S h s = once-length (M * S) (listed img M S) s.once (listed_below img M S h s)
