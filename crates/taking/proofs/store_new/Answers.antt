use Rattle.taking.proofs.store_new.Goals as goal

pub returns : goal.returns
returns c = cc
