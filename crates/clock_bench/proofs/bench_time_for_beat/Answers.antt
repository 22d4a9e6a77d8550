-- `clock_bench::bench_time_for_beat` tests, lays, and runs down what it laid. Assumes nothing.
use Rattle.std.proofs.Common.{◌≡◌, sym, refl, ◌∙◌, arith, w32, to_z, of_z}
use Rattle.rows.proofs.BackFromBits.{back}
use lib.Ieee.{of_bits}
use Rattle.chart.specs.Timing.{timing}
use Rattle.clock_bench.specs.EventRoom.{event_room}
use Rattle.clock_bench.specs.BenchQuestion.{bench_number}
use Rattle.clock_bench.proofs.WithATempo.{most-filled}
use Rattle.clock_bench.proofs.BenchOutcome.{laid-fits, room-is, bench_room, passed-few, taken_bench, refused_bench}
use Rattle.clock_bench.proofs.bench_time_for_beat.Goals as goal
use Rattle.clock_bench.proofs.bench_time_for_beat.Goals.{After-lower_of-number}

the_number : (c : After-lower_of-number) → let a = c.args in c.lower_of-number.result ≡ bench_number (timing a.tempo_beats.now a.tempo_values.now a.stop_beats.now a.stop_values.now a.delay_beats.now a.delay_values.now a.warp_beats.now a.warp_lengths.now) a.offset a.global a.beat (event_room a.rows.now a.kinds.now a.numbers.now)
unfolding bench_number
the_number c =
    let a = c.args in
    rw (← c.check_timing-timing.ensures, ← c.beat_number-asked.ensures, ← room-is (timing a.tempo_beats.now a.tempo_values.now a.stop_beats.now a.stop_values.now a.delay_beats.now a.delay_values.now a.warp_beats.now a.warp_lengths.now) (event_room a.rows.now a.kinds.now a.numbers.now) c.most_events-most.result (c.most_events-most.ensures ∙ sym (most-filled (timing a.tempo_beats.now a.tempo_values.now a.stop_beats.now a.stop_values.now a.delay_beats.now a.delay_values.now a.warp_beats.now a.warp_lengths.now))) c.room_number-room.result c.room_number-room.ensures, ← c.lower_of-later.ensures) c.lower_of-number.ensures

pub lay_filled-laid-requires : goal.lay_filled-laid-requires
lay_filled-laid-requires c =
    let a = c.args in
    bench_room (timing a.tempo_beats.now a.tempo_values.now a.stop_beats.now a.stop_values.now a.delay_beats.now a.delay_values.now a.warp_beats.now a.warp_lengths.now) (event_room a.rows.now a.kinds.now a.numbers.now) c.most_events-most.result (c.most_events-most.ensures ∙ sym (most-filled (timing a.tempo_beats.now a.tempo_values.now a.stop_beats.now a.stop_values.now a.delay_beats.now a.delay_values.now a.warp_beats.now a.warp_lengths.now))) a.offset a.global a.beat (sym (the_number (goal.at.lay_filled-laid-requires c).After-lower_of-number) ∙ c.if-number-eq-TAKEN.true)

pub run_down-at-requires : goal.run_down-at-requires
run_down-at-requires c =
    let a = c.args in
    let l = c.lay_filled-laid in
    let f = laid-fits _ c.lay_filled-laid.new.rows c.lay_filled-laid.new.kinds c.lay_filled-laid.new.numbers (event_room a.rows.now a.kinds.now a.numbers.now) l.ensures.1 l.result l.ensures.0 in
    (f.0, f.1, f.2, refl)

pub overflow_add-result : goal.overflow_add-result
overflow_add-result c =
    let s = c in
    let a = s.args in
    let l = c.lay_filled-laid in
    record { fits = omega (arith, passed-few (timing a.tempo_beats.now a.tempo_values.now a.stop_beats.now a.stop_values.now a.delay_beats.now a.delay_values.now a.warp_beats.now a.warp_lengths.now) (event_room a.rows.now a.kinds.now a.numbers.now) c.most_events-most.result (c.most_events-most.ensures ∙ sym (most-filled (timing a.tempo_beats.now a.tempo_values.now a.stop_beats.now a.stop_values.now a.delay_beats.now a.delay_values.now a.warp_beats.now a.warp_lengths.now))) a.offset a.global a.beat l.result c.lay_filled-laid.new.rows c.lay_filled-laid.new.kinds c.lay_filled-laid.new.numbers l.ensures c.run_down-at.result (to_z w32 (of_z w32 c.beat_to_note_row-row.result)) c.tempo_at_the_start-tempo.result c.run_down-at.ensures, (bench_room (timing a.tempo_beats.now a.tempo_values.now a.stop_beats.now a.stop_values.now a.delay_beats.now a.delay_values.now a.warp_beats.now a.warp_lengths.now) (event_room a.rows.now a.kinds.now a.numbers.now) c.most_events-most.result (c.most_events-most.ensures ∙ sym (most-filled (timing a.tempo_beats.now a.tempo_values.now a.stop_beats.now a.stop_values.now a.delay_beats.now a.delay_values.now a.warp_beats.now a.warp_lengths.now))) a.offset a.global a.beat (sym (the_number (goal.at.overflow_add-result c).After-lower_of-number) ∙ c.if-number-eq-TAKEN.true)).0, s.well_formed.1.1.1.1.1.1.1.1.1.1.1.0.1) }

pub returns-then-number-eq-TAKEN : goal.returns-then-number-eq-TAKEN
returns-then-number-eq-TAKEN c =
    let s = c in
    let a = s.args in
    let l = c.lay_filled-laid in
    taken_bench (timing a.tempo_beats.now a.tempo_values.now a.stop_beats.now a.stop_values.now a.delay_beats.now a.delay_values.now a.warp_beats.now a.warp_lengths.now) (event_room a.rows.now a.kinds.now a.numbers.now) c.most_events-most.result (c.most_events-most.ensures ∙ sym (most-filled (timing a.tempo_beats.now a.tempo_values.now a.stop_beats.now a.stop_values.now a.delay_beats.now a.delay_values.now a.warp_beats.now a.warp_lengths.now))) a.offset a.global a.beat l.result c.lay_filled-laid.new.rows c.lay_filled-laid.new.kinds c.lay_filled-laid.new.numbers l.ensures c.run_down-at.result (to_z w32 (of_z w32 c.beat_to_note_row-row.result)) c.tempo_at_the_start-tempo.result c.run_down-at.ensures c.time_on.result (sym (the_number (goal.at.returns-then-number-eq-TAKEN c).After-lower_of-number) ∙ c.if-number-eq-TAKEN.true) c.tempo_at_the_start-tempo.ensures (back c.beat_to_note_row-row.result (record { sfits = c.beat_to_note_row-row.type_inv }) ∙ c.beat_to_note_row-row.ensures) c.time_on.ensures

pub returns : goal.returns
unfolding of_bits
returns c =
    let a = c.args in
    refused_bench (timing a.tempo_beats.now a.tempo_values.now a.stop_beats.now a.stop_values.now a.delay_beats.now a.delay_values.now a.warp_beats.now a.warp_lengths.now) (event_room a.rows.now a.kinds.now a.numbers.now) a.offset a.global a.beat c.lower_of-number.result (the_number (goal.at.returns c).After-lower_of-number) c.if-number-eq-TAKEN.false
