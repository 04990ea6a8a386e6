-- The ledger of a start: how the history reads image and table, once. What a census of a ledger lists.
use Rattle.std.specs.Prelude.{List, [], ◌∷◌, ◌++◌, ℕ, zero, suc, ◌+◌, length, replicate}
use Rattle.rules.specs.Bytes.{part, flat}
use Rattle.rules.specs.Directory.{directory, slots}
use Rattle.rules.specs.Census.{directory_owner}
use Rattle.chains.specs.Chain.{contents, pieces}
use Rattle.chains.specs.Walk.{chain_at, numbers, data_of}
use Rattle.chains.specs.Files.{sectors_at}
use Rattle.demands.specs.Ledger.{File, secs_of, closed, Ledger}

-- ---- the files of an image

-- of each sector its record number; its bytes 2-255
abbrev pub records : List ℕ → List ℕ → List (List ℕ)
records img ks = pieces 2 2 img ks

abbrev pub insides : List ℕ → List ℕ → List (List ℕ)
insides img ks = pieces 2 254 img ks

unfoldable pub file_at : ℕ → List ℕ → ℕ → File
file_at S img o = record {
  at = o;
  name = part img o 11;
  mode = part img (o + 11) 2;
  ends = part img (o + 13) 6;
  map = part img (o + 19) 1;
  date = part img (o + 20) 4;
  secs = sectors_at S img o;
  recs = records img (sectors_at S img o);
  body = contents img (sectors_at S img o);
}

unfoldable pub files_at : ℕ → List ℕ → List ℕ → List File
files_at S img [] = []
files_at S img (o ∷ os) = file_at S img o ∷ files_at S img os

-- the bytes of c blocks, the first of which begins at f
unfoldable pub fcbs_from : List ℕ → ℕ → ℕ → List (List ℕ)
fcbs_from tab f zero = []
fcbs_from tab f (suc c) = part tab f 320 ∷ fcbs_from tab (f + 320) c

-- THE START: the ledger of an image and of a table whose blocks are all closed
unfoldable pub ledger_of : ℕ → ℕ → List ℕ → List ℕ → Ledger
ledger_of M S img tab = record {
  base = img;
  free = chain_at S img 541;
  spare = insides img (chain_at S img 541);
  dir = directory img M S;
  heads = pieces 2 14 img (directory img M S);
  slots = files_at S img (slots img M S);
  blocks = replicate 8 closed;
  fcbs = fcbs_from tab 0 8;
}

-- ---- what the census lists

-- of a ledger: the numbers of its data sectors, free ones first, then the directory's, then slot by slot; and for each its owner
abbrev pub ledger_numbers : ℕ → Ledger → List ℕ
ledger_numbers S a = numbers S (a.free ++ (data_of S a.dir ++ flat secs_of a.slots))

abbrev pub owners_from : ℕ → List File → List ℕ
owners_from owner [] = []
owners_from owner (f ∷ fs) = replicate (length f.secs) owner ++ owners_from (owner + 1) fs

abbrev pub ledger_owners : ℕ → Ledger → List ℕ
ledger_owners S a = replicate (length a.free) 0 ++ (replicate (length (data_of S a.dir)) directory_owner ++ owners_from 1 a.slots)
