use Rattle.process_sm_walk.proofs.advance.Goals as goal

pub returns-in-Tempo : goal.returns-in-Tempo
returns-in-Tempo c = rw c.in-Tempo.is

pub returns-in-Stop : goal.returns-in-Stop
returns-in-Stop c = rw c.in-Stop.is
