-- No second outcome fits the promise of a public function of this crate.
use Rattle.std.specs.Prelude.{List, ℕ}
use Rattle.rules.specs.Bytes.{part, over}
use Rattle.rules.specs.Directory.{attributes_at}
use Rattle.rules.specs.Files.{write_protected, delete_protected, read_protected}
use Rattle.laws.specs.Single.{Single, single}
use Rattle.entries.specs.Entries.{entry_of, new_of, bytes_of}
use Rattle.entries.specs.Protections.{forbids}
use Rattle.entries.specs.declared.Entry.{Entry}
use Rattle.entries.specs.declared.Protection.{Protection}

pub bytes-at-single : (n : ℕ) (m : List ℕ) (at : ℕ) → Single (part m at n)
bytes-at-single n m at = single (part m at n)

pub entry-at-single : (img : List ℕ) (slot : ℕ) → Single (entry_of img slot)
entry-at-single img slot = single (entry_of img slot)

pub is-protected-single : (img : List ℕ) (slot : ℕ) (from : Protection) → Single (forbids from (attributes_at img slot))
is-protected-single img slot from = single (forbids from (attributes_at img slot))

pub is-write-protected-single : (img : List ℕ) (slot : ℕ) → Single (write_protected (attributes_at img slot))
is-write-protected-single img slot = single (write_protected (attributes_at img slot))

pub is-delete-protected-single : (img : List ℕ) (slot : ℕ) → Single (delete_protected (attributes_at img slot))
is-delete-protected-single img slot = single (delete_protected (attributes_at img slot))

pub is-read-protected-single : (img : List ℕ) (slot : ℕ) → Single (read_protected (attributes_at img slot))
is-read-protected-single img slot = single (read_protected (attributes_at img slot))

pub new-entry-single : (tab : List ℕ) (f : ℕ) → Single (new_of tab f)
new-entry-single tab f = single (new_of tab f)

pub put-entry-single : (m : List ℕ) (at : ℕ) (e : Entry) → Single (over m at (bytes_of e))
put-entry-single m at e = single (over m at (bytes_of e))
