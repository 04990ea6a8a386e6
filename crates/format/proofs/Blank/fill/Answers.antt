use Rattle.rules.specs.Bytes.{zeros}
use Rattle.rules.specs.Format.{blank_to}
use Rattle.laws.specs.Bytes.{over_none}
use Rattle.format.proofs.Laws.{fill_more, fill-all}
use borrow.Author.Rules.{rules}
use Rattle.format.proofs.Blank.fill.Goals as goal

pub loop-k-init : goal.loop-k-init
unfolding blank_to
loop-k-init c = search (rules, over_none)

pub loop-k-preserved : goal.loop-k-preserved
unfolding zeros
loop-k-preserved c = search (rules, fill_more)

pub returns : goal.returns
returns c = search (rules, fill-all)
