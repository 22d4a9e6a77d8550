-- `clock_walk::pass_stop` meets its contract. Assumes nothing.
use Rattle.clock_walk.specs.Passing.{after_stop}
use Rattle.rows.proofs.BackFromBits.{back}
use Rattle.clock_walk.proofs.pass_stop.Goals as goal

pub returns : goal.returns
unfolding after_stop
returns c = rw (back c.args.row c.ranges.row)
