-- `clock_walk::pass_next_tempo` is `tempo_passed`. Assumes nothing.
use lib.Ieee.{of_bits}
use Rattle.std.proofs.Common.{le-ltb, lt-ltb}
use Rattle.clock_walk.specs.Passing.{event_passed}
use Rattle.clock_walk.specs.Soon.{tempo_passed}
use Rattle.rows.proofs.BackFromBits.{back}
use Rattle.clock_walk.proofs.pass_next_tempo.Goals as goal

pub returns-then-state-tempo_beats : goal.returns-then-state-tempo_beats
unfolding tempo_passed event_passed of_bits
returns-then-state-tempo_beats c =
    let s = c in
    rw (lt-ltb _ _ c.if-state-tempo_beats.true, c.pass_event.ensures, c.time_at-time.ensures, back s.args.row s.ranges.row)

pub returns : goal.returns
unfolding tempo_passed
returns c = rw (le-ltb _ _ c.if-state-tempo_beats.false)
