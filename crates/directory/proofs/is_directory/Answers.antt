use Rattle.directory.proofs.Laws.{off-track, before-fifth, fifth_on}
use Rattle.directory.proofs.is_directory.Goals as goal

pub returns-then-track-ne0 : goal.returns-then-track-ne0
returns-then-track-ne0 c = search off-track

pub returns-then-sector-ge5 : goal.returns-then-sector-ge5
returns-then-sector-ge5 c = search fifth_on

pub returns-else-sector-ge5 : goal.returns-else-sector-ge5
returns-else-sector-ge5 c = search before-fifth
