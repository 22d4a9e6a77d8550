-- `clock_run::run_checked` tests the room and the cursor and asks every beat. Assumes nothing.
use Rattle.std.proofs.Common.{◌≡◌, length, sym, ◌∙◌}
use Rattle.chart.specs.Timing.{timing}
use Rattle.clock.specs.Question.{tempos_of, cursor_refusal}
use Rattle.clock_run.specs.Run.{checked_run_number}
use Rattle.clock_run.proofs.RunOutcome.{checked_room, refused_checked_run, taken_checked_run}
use Rattle.clock_run.proofs.run_checked.Goals as goal
use Rattle.clock_run.proofs.run_checked.Goals.{After-lower_of-number}

the_number : (c : After-lower_of-number) →
    let a = c.args in
    c.lower_of-number.result ≡ checked_run_number (timing a.tempo_beats.now a.tempo_values.now a.stop_beats.now a.stop_values.now a.delay_beats.now a.delay_values.now a.warp_beats.now a.warp_lengths.now) a.cursor (length a.beats.now) (length a.numbers.now) (length a.times.now) (length a.counts.now)
unfolding checked_run_number cursor_refusal tempos_of
the_number c = rw (← c.room_number-room.ensures, ← c.refusal-lent.ensures) c.lower_of-number.ensures

pub ask_each-last-requires : goal.ask_each-last-requires
ask_each-last-requires c =
    let a = c.args in
    checked_room (timing a.tempo_beats.now a.tempo_values.now a.stop_beats.now a.stop_values.now a.delay_beats.now a.delay_values.now a.warp_beats.now a.warp_lengths.now) a.offset a.global a.cursor a.beats.now a.numbers.now a.times.now a.counts.now (sym (the_number (goal.at.ask_each-last-requires c).After-lower_of-number) ∙ c.if-number-eq-TAKEN.true)

pub returns-then-number-eq-TAKEN : goal.returns-then-number-eq-TAKEN
returns-then-number-eq-TAKEN c =
    let a = c.args in
    let none = c.no_mark-none in
    taken_checked_run (timing a.tempo_beats.now a.tempo_values.now a.stop_beats.now a.stop_values.now a.delay_beats.now a.delay_values.now a.warp_beats.now a.warp_lengths.now) a.offset a.global a.cursor a.beats.now a.numbers.now a.times.now a.counts.now none.result none.ensures c.ask_each-last.result _ _ _ (sym (the_number (goal.at.returns-then-number-eq-TAKEN c).After-lower_of-number) ∙ c.if-number-eq-TAKEN.true) c.ask_each-last.ensures

pub returns : goal.returns
returns c =
    let a = c.args in
    refused_checked_run (timing a.tempo_beats.now a.tempo_values.now a.stop_beats.now a.stop_values.now a.delay_beats.now a.delay_values.now a.warp_beats.now a.warp_lengths.now) a.offset a.global a.cursor a.beats.now a.numbers.now a.times.now a.counts.now c.lower_of-number.result (the_number (goal.at.returns c).After-lower_of-number) c.if-number-eq-TAKEN.false
