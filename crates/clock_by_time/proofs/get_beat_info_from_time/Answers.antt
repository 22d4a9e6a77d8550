-- `clock_by_time::get_beat_info_from_time` tests all, and answers. Assumes nothing.
use mathlib.Core.Path.{◌≡◌}
use borrow.Author.Tests.{eq-eqb, ne_eqb}
use Rattle.chart.specs.Timing.{timing}
use Rattle.clock_by_time.specs.BeatAt.{beat_info_number, beat_info}
use Rattle.clock_by_time.proofs.get_beat_info_from_time.Goals as goal
use Rattle.clock_by_time.proofs.get_beat_info_from_time.Goals.{After-lower_of-number}

the_number : (c : After-lower_of-number) →
    let a = c.args in
    c.lower_of-number.result ≡ beat_info_number (timing a.tempo_beats.now a.tempo_values.now a.stop_beats.now a.stop_values.now a.delay_beats.now a.delay_values.now a.warp_beats.now a.warp_lengths.now) a.offset a.global a.time
unfolding beat_info_number
the_number c = rw (← c.check_timing-timing.ensures, ← c.time_number-asked.ensures) c.lower_of-number.ensures

pub returns-then-number-ne-TAKEN : goal.returns-then-number-ne-TAKEN
unfolding beat_info
returns-then-number-ne-TAKEN c =
    let tested = c in
    rw (c.refused.ensures, ← the_number (goal.at.returns-then-number-ne-TAKEN tested).After-lower_of-number, ne_eqb _ 0 c.if-number-ne-TAKEN.true)

pub returns : goal.returns
unfolding beat_info
returns c =
    let tested = c in
    rw (← the_number (goal.at.returns tested).After-lower_of-number, eq-eqb _ 0 c.if-number-ne-TAKEN.false) c.info_at.ensures
