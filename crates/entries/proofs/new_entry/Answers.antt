use Rattle.entries.specs.Entries.{new_of}
use Rattle.entries.proofs.new_entry.Goals as goal

pub returns : goal.returns
unfolding new_of
returns c = cc
