-- `clock_bench::lay_out_events` tests, and lays what is taken. Assumes nothing.
use Rattle.std.proofs.Common.{◌≡◌, sym, ◌∙◌}
use lib.Ieee.{of_bits}
use Rattle.chart.specs.Timing.{timing}
use Rattle.clock_bench.specs.EventRoom.{event_room}
use Rattle.clock_bench.specs.BenchQuestion.{laying_number}
use Rattle.clock_bench.proofs.WithATempo.{most-filled}
use Rattle.clock_bench.proofs.BenchOutcome.{room-is, laying-room, taken-laying, refused-laying}
use Rattle.clock_bench.proofs.lay_out_events.Goals as goal
use Rattle.clock_bench.proofs.lay_out_events.Goals.{After-lower_of-number}

the_number : (c : After-lower_of-number) → let a = c.args in c.lower_of-number.result ≡ laying_number (timing a.tempo_beats.now a.tempo_values.now a.stop_beats.now a.stop_values.now a.delay_beats.now a.delay_values.now a.warp_beats.now a.warp_lengths.now) (event_room a.rows.now a.kinds.now a.numbers.now)
unfolding laying_number of_bits
the_number c =
    let a = c.args in
    rw (← c.check_timing-timing.ensures, ← room-is (timing a.tempo_beats.now a.tempo_values.now a.stop_beats.now a.stop_values.now a.delay_beats.now a.delay_values.now a.warp_beats.now a.warp_lengths.now) (event_room a.rows.now a.kinds.now a.numbers.now) c.most_events-most.result (c.most_events-most.ensures ∙ sym (most-filled (timing a.tempo_beats.now a.tempo_values.now a.stop_beats.now a.stop_values.now a.delay_beats.now a.delay_values.now a.warp_beats.now a.warp_lengths.now))) c.room_number-room.result c.room_number-room.ensures) c.lower_of-number.ensures

pub lay_filled-count-requires : goal.lay_filled-count-requires
lay_filled-count-requires c =
    let a = c.args in
    laying-room (timing a.tempo_beats.now a.tempo_values.now a.stop_beats.now a.stop_values.now a.delay_beats.now a.delay_values.now a.warp_beats.now a.warp_lengths.now) (event_room a.rows.now a.kinds.now a.numbers.now) c.most_events-most.result (c.most_events-most.ensures ∙ sym (most-filled (timing a.tempo_beats.now a.tempo_values.now a.stop_beats.now a.stop_values.now a.delay_beats.now a.delay_values.now a.warp_beats.now a.warp_lengths.now))) (sym (the_number (goal.at.lay_filled-count-requires c).After-lower_of-number) ∙ c.if-number-eq-TAKEN.true)

pub returns-then-number-eq-TAKEN : goal.returns-then-number-eq-TAKEN
returns-then-number-eq-TAKEN c =
    let a = c.args in
    taken-laying (timing a.tempo_beats.now a.tempo_values.now a.stop_beats.now a.stop_values.now a.delay_beats.now a.delay_values.now a.warp_beats.now a.warp_lengths.now) (event_room a.rows.now a.kinds.now a.numbers.now) c.most_events-most.result (c.most_events-most.ensures ∙ sym (most-filled (timing a.tempo_beats.now a.tempo_values.now a.stop_beats.now a.stop_values.now a.delay_beats.now a.delay_values.now a.warp_beats.now a.warp_lengths.now))) c.lay_filled-count.result _ (sym (the_number (goal.at.returns-then-number-eq-TAKEN c).After-lower_of-number) ∙ c.if-number-eq-TAKEN.true) c.lay_filled-count.ensures

pub returns : goal.returns
returns c =
    let a = c.args in
    rw c.refused.ensures (refused-laying (timing a.tempo_beats.now a.tempo_values.now a.stop_beats.now a.stop_values.now a.delay_beats.now a.delay_values.now a.warp_beats.now a.warp_lengths.now) (event_room a.rows.now a.kinds.now a.numbers.now) c.lower_of-number.result (the_number (goal.at.returns c).After-lower_of-number) c.if-number-eq-TAKEN.false)
