-- `clock_walk::pass_tempo` meets its contract. Assumes nothing.
use Rattle.clock_walk.specs.Passing.{after_tempo}
use Rattle.rows.proofs.BackFromBits.{back}
use Rattle.clock_walk.proofs.pass_tempo.Goals as goal

pub returns : goal.returns
unfolding after_tempo
returns c =
    rw (back c.args.row c.ranges.row)
