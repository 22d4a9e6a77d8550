use Rattle.process_sm_machine.proofs.meet.Goals as goal

pub returns-in-Tempo : goal.returns-in-Tempo
returns-in-Tempo c = rw c.in-Tempo.is c.meet_tempo.ensures

pub returns-in-Stop : goal.returns-in-Stop
returns-in-Stop c = rw c.in-Stop.is c.meet_stop.ensures
