-- `clock_by_time::get_beat_infos_from_times` refuses, or answers every time. Assumes nothing.
use mathlib.Core.Path.{sym, ◌∙◌}
use Rattle.chart.specs.Timing.{timing}
use Rattle.clock_by_time.specs.ManyTimes.{info_columns}
use Rattle.clock_by_time.proofs.InfoOutcome.{refused-run, run_without_room, room_for_all, taken-run}
use Rattle.clock_by_time.proofs.get_beat_infos_from_times.Goals as goal

pub returns-then-timing-ne-TAKEN : goal.returns-then-timing-ne-TAKEN
returns-then-timing-ne-TAKEN c =
    let tested = c in
    let a = tested.args in
    let t = timing a.tempo_beats.now a.tempo_values.now a.stop_beats.now a.stop_values.now a.delay_beats.now a.delay_values.now a.warp_beats.now a.warp_lengths.now in
    let old = info_columns a.numbers.now a.beats.now a.freezes.now a.delays.now a.counts.now in
    refused-run t a.offset a.global a.times.now old _ tested.check_timing-timing.ensures c.if-timing-ne-TAKEN.true

pub returns-then-times-room : goal.returns-then-times-room
returns-then-times-room c =
    let room = c in
    let tested = room in
    let a = tested.args in
    let t = timing a.tempo_beats.now a.tempo_values.now a.stop_beats.now a.stop_values.now a.delay_beats.now a.delay_values.now a.warp_beats.now a.warp_lengths.now in
    let old = info_columns a.numbers.now a.beats.now a.freezes.now a.delays.now a.counts.now in
    run_without_room t a.offset a.global a.times.now old (sym tested.check_timing-timing.ensures ∙ room.if-timing-ne-TAKEN.false) (rw room.room_of-room.ensures at c.if-times-room.true)

pub answer_each-requires : goal.answer_each-requires
answer_each-requires c =
    let fits = c in
    let room = fits in
    let tested = room in
    let a = tested.args in
    let t = timing a.tempo_beats.now a.tempo_values.now a.stop_beats.now a.stop_values.now a.delay_beats.now a.delay_values.now a.warp_beats.now a.warp_lengths.now in
    let old = info_columns a.numbers.now a.beats.now a.freezes.now a.delays.now a.counts.now in
    room_for_all t a.offset a.global a.times.now old (rw room.room_of-room.ensures at fits.if-times-room.false)

pub returns : goal.returns
returns c =
    let all = c in
    let fits = all in
    let room = fits in
    let tested = room in
    let a = tested.args in
    let t = timing a.tempo_beats.now a.tempo_values.now a.stop_beats.now a.stop_values.now a.delay_beats.now a.delay_values.now a.warp_beats.now a.warp_lengths.now in
    let old = info_columns a.numbers.now a.beats.now a.freezes.now a.delays.now a.counts.now in
    taken-run t a.offset a.global a.times.now old (rw room.room_of-room.ensures at fits.if-times-room.false) _ (sym tested.check_timing-timing.ensures ∙ room.if-timing-ne-TAKEN.false) all.answer_each.ensures
