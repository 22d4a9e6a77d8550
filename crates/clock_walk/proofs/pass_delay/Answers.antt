-- `clock_walk::pass_delay` meets its contract. Assumes nothing.
use Rattle.clock_walk.specs.Passing.{after_delay}
use Rattle.rows.proofs.BackFromBits.{back}
use Rattle.clock_walk.proofs.pass_delay.Goals as goal

pub returns : goal.returns
unfolding after_delay
returns c = rw (back c.args.row c.ranges.row)
