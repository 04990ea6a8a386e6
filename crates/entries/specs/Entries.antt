-- A directory entry as the struct that the code holds by value, and as its 24 bytes. What is stored is read back, and what is read
-- stored again.
use Rattle.std.specs.Prelude.{◌≡◌, refl, List, ◌∷◌, ◌++◌, ℕ, ◌+◌, ◌*◌, ◌/◌, ◌%◌, ◌≤◌, ◌<◌, length}
use Rattle.std.proofs.Common.{sym, ap, ◌∙◌, add_assoc, arith}
use Rattle.rules.specs.Bytes.{byte_at, word_at, part, over, two, zeros}
use Rattle.rules.specs.Directory.{attributes_at, start_at, end_at, size_at}
use Rattle.rules.specs.Block.{name_in, date_in}
use Rattle.rules.specs.Files.{new_entry}
use Rattle.laws.specs.Bytes.{two_back, length_part, part-is, part-all, over-in}
use Rattle.entries.specs.declared.Entry.{Entry}

-- "ten per sector, at 16, 40, .. 232, each 24 bytes": what a slot holds
unfoldable pub entry_of : List ℕ → ℕ → Entry
entry_of img slot =
    record {
      name = part img slot 11;
      attributes = attributes_at img slot;
      byte12 = byte_at img (slot + 12);
      start = start_at img slot;
      end = end_at img slot;
      size = size_at img slot;
      byte19 = byte_at img (slot + 19);
      byte20 = byte_at img (slot + 20);
      date = part img (slot + 21) 3;
    }

-- "gets name and date, all else 0"
unfoldable pub new_of : List ℕ → ℕ → Entry
new_of tab f =
    record {
      name = name_in tab f;
      attributes = 0;
      byte12 = 0;
      start = 0;
      end = 0;
      size = 0;
      byte19 = 0;
      byte20 = 0;
      date = date_in tab f;
    }

unfoldable pub bytes_of : Entry → List ℕ
bytes_of e =
    part e.name 0 11
    ++ (e.attributes ∷ e.byte12
    ∷ (two e.start
    ++ (two e.end
    ++ (two e.size
    ++ (e.byte19 ∷ e.byte20
    ∷ part e.date 0 3)))))

-- ---- laws

-- a new entry's bytes are those that the rules give it
pub new-bytes : (tab : List ℕ) (f : ℕ) → bytes_of (new_of tab f) ≡ new_entry tab f
unfolding bytes_of new_of new_entry two zeros
new-bytes tab f = rw (part-all (name_in tab f) 11 (length_part tab (f + 4) 11), part-all (date_in tab f) 3 (length_part tab (f + 25) 3)) refl

-- arrays of their lengths, numbers of two bytes: what the struct's types say of every entry
pub record Sound (e : Entry) : Type 0 where
  pub name_length : length e.name ≡ 11
  pub date_length : length e.date ≡ 3
  pub start_fits : e.start < 65536
  pub end_fits : e.end < 65536
  pub size_fits : e.size < 65536

back : (v : ℕ) → v < 65536 → v / 256 % 256 * 256 + v % 256 ≡ v
back v h = two_back v (v / 256 % 256) (v % 256) h refl refl

in_bytes : (e : Entry) → Sound e → entry_of (bytes_of e) 0 ≡ e
unfolding entry_of bytes_of part word_at two
in_bytes e s =
    rw (
      part-all e.name 11 s.name_length,
      part-all e.date 3 s.date_length,
      back e.start s.start_fits,
      back e.end s.end_fits,
      back e.size s.size_fits,
    ) refl

of_part : (m : List ℕ) (slot : ℕ) → entry_of (part m slot 24) 0 ≡ entry_of m slot
unfolding entry_of part word_at
of_part m slot = simp add_assoc

length-bytes : (e : Entry) → length (bytes_of e) ≡ 24
unfolding bytes_of part two
length-bytes e = refl

-- an entry that was stored is read back
pub read_back : (m : List ℕ) (at : ℕ) (e : Entry) → Sound e → at + 24 ≤ length m → entry_of (over m at (bytes_of e)) at ≡ e
read_back m at e s h =
    sym (of_part (over m at (bytes_of e)) at)
    ∙ ap (λ (l : List ℕ). entry_of l 0) (part-is (over m at (bytes_of e)) at 24 (bytes_of e) (length-bytes e) (λ i b. over-in m at (bytes_of e) i (rw length-bytes b) (omega arith)))
    ∙ in_bytes e s
