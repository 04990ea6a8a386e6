use Rattle.census_laws.specs.Whole.{free-wrong, files-wrong, ended-right}
use Rattle.census.proofs.chains.Goals as goal

pub returns-in_default : goal.returns-in_default
returns-in_default c = search free-wrong

pub returns-in_default-list_files : goal.returns-in_default-list_files
returns-in_default-list_files c = search files-wrong

pub returns : goal.returns
returns c = search ended-right
