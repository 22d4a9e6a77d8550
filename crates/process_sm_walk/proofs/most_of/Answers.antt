use Rattle.process_sm_walk.proofs.most_of.Goals as goal

pub returns : goal.returns
returns c = rw c.at_least_one-at_least.ensures
