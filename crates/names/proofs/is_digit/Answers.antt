use Rattle.laws.specs.Tests.{tests}
use Rattle.rules.specs.Bytes.{within}
use Rattle.rules.specs.Names.{is_digit}
use Rattle.names.proofs.is_digit.Goals as goal

pub returns-in-48-to-57 : goal.returns-in-48-to-57
unfolding is_digit within
returns-in-48-to-57 c = search tests

pub returns-in_default : goal.returns-in_default
unfolding is_digit within
returns-in_default c = search tests

pub returns-in_default-2 : goal.returns-in_default-2
unfolding is_digit within
returns-in_default-2 c = search tests
