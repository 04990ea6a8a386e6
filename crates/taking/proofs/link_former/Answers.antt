use Rattle.taking.proofs.link_former.Goals as goal

pub returns : goal.returns
returns c = cc
