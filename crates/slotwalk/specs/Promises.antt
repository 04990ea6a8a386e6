-- No second outcome fits the promise of a public function of this crate.
use Rattle.std.specs.Prelude.{Some}
use Rattle.std.specs.Prelude.{List, ◌≡◌, ℕ}
use Rattle.rules.specs.Bytes.{over}
use Rattle.rules.specs.Directory.{directory, slots}
use Rattle.rules.specs.Census.{twins}
use Rattle.laws.specs.Single.{Single, single}
use Rattle.census_laws.specs.Numbered.{files_numbered}
use Rattle.census_laws.specs.Walks.{Laid, laid, sectors, files, SingleLaid, single-laid}

-- the answer alone: what the table that is lent to it holds then is left open
pub has-twins-single : (img : List ℕ) (M S : ℕ) → Single (twins img (slots img M S))
has-twins-single img M S = single (twins img (slots img M S))

-- the answer is how many, and with the output it is one list
abbrev pub SingleMany : Laid → Type 0
SingleMany l = (n n' : ℕ) (out out' : List ℕ) → laid (Some n) out ≡ l → laid (Some n') out' ≡ l → (n ≡ n') × (out ≡ out')

pub list-directory-single : (img : List ℕ) (M S : ℕ) (out : List ℕ) (at : ℕ) → SingleMany (sectors S (directory img M S) out at 0)
list-directory-single img M S out at n n' ys ys' p q = (cc, cc)

pub list-files-single : (img : List ℕ) (M S : ℕ) (out : List ℕ) (at : ℕ) → SingleLaid (files img M S (slots img M S) out at)
list-files-single img M S out at = single-laid (files img M S (slots img M S) out at)

pub own-files-single : (img : List ℕ) (M S : ℕ) (out : List ℕ) (at : ℕ) → Single (over out at (files_numbered img 1 (slots img M S)))
own-files-single img M S out at = single (over out at (files_numbered img 1 (slots img M S)))
