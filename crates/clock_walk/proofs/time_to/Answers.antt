-- `clock_walk::time_to` meets its contract. Assumes nothing.
use lib.Ieee.{of_bits}
use Rattle.rows.proofs.BackFromBits.{back}
use Rattle.clock_walk.specs.Passing.{time_to}
use Rattle.clock_walk.proofs.time_to.Goals as goal

pub returns-then-warping : goal.returns-then-warping
unfolding time_to of_bits
returns-then-warping c =
    rw c.if-warping.true

pub returns : goal.returns
unfolding time_to of_bits
returns c =
    let s = c in
    rw (c.if-warping.false, c.beats_between-beats.ensures, c.tempo_in_force-tempo.ensures, back s.args.row s.ranges.row, back s.args.state.row (record { sfits = c.struct_told-1.given.1.1.1.1.0.1 }))
