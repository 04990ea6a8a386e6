use mathlib.Core.Path.{refl, ◌∙◌}
use Rattle.rules.specs.Bytes.{one, two}
use Rattle.rules.specs.Directory.{place_of}
use Rattle.directory.proofs.put_place.Goals as goal

pub returns : goal.returns
unfolding one place_of two
returns c = c.store.ensures ∙ rw (c.to_be_bytes.ensures, c.to_be_bytes-2.ensures, c.address_of.ensures) refl
