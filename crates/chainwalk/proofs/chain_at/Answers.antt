use Rattle.census_laws.specs.Walks.{chain-long, chain-walked}
use Rattle.chainwalk.proofs.chain_at.Goals as goal

pub returns-then-count-most : goal.returns-then-count-most
returns-then-count-most c = search chain-long

pub returns : goal.returns
returns c = search chain-walked
