-- `clock_walk::still_runs` is `still_runs`, kind by kind. Assumes nothing.
use Rattle.clock_walk.specs.ByTime.{still_runs}
use Rattle.clock_walk.proofs.still_runs.Goals as goal

pub returns-in-WarpEnd : goal.returns-in-WarpEnd
unfolding still_runs
returns-in-WarpEnd c = rw c.in-WarpEnd.is

pub returns-in-Tempo : goal.returns-in-Tempo
unfolding still_runs
returns-in-Tempo c = rw c.in-Tempo.is

pub returns-in-Delay : goal.returns-in-Delay
unfolding still_runs
returns-in-Delay c = rw c.in-Delay.is

pub returns-in-Stop : goal.returns-in-Stop
unfolding still_runs
returns-in-Stop c = rw c.in-Stop.is

pub returns-in-Warp : goal.returns-in-Warp
unfolding still_runs
returns-in-Warp c = rw c.in-Warp.is
