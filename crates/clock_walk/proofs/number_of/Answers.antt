-- `clock_walk::number_of` is `brings`, kind by kind. Assumes nothing.
use lib.Ieee.{of_bits}
use Rattle.clock_walk.proofs.number_of.Goals as goal

pub returns-in-WarpEnd : goal.returns-in-WarpEnd
unfolding of_bits
returns-in-WarpEnd c = rw c.in-WarpEnd.is

pub returns-in-Tempo : goal.returns-in-Tempo
unfolding of_bits
returns-in-Tempo c = rw c.in-Tempo.is

pub returns-in-Delay : goal.returns-in-Delay
returns-in-Delay c = rw c.in-Delay.is c.read_at.ensures

pub returns-in-Stop : goal.returns-in-Stop
returns-in-Stop c = rw c.in-Stop.is c.read_at-in-Stop.ensures

pub returns-in-Warp : goal.returns-in-Warp
returns-in-Warp c = rw (c.in-Warp.is, c.read_at-in-Warp.ensures, c.read_at-in-Warp-2.ensures)
