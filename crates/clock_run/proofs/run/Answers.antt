-- `clock_run::run` tests the timing: one that is taken is run as one that was tested, and of another the lowest number is told. Assumes nothing.
use Rattle.std.proofs.Common.{◌≡◌, length, sym, ◌∙◌}
use Rattle.limits.proofs.NoRefusal.{lower-none}
use Rattle.chart.specs.Timing.{timing}
use Rattle.clock.specs.Question.{tempos_of, cursor_refusal}
use Rattle.clock_run.specs.Run.{run_number}
use Rattle.clock_run.proofs.RunOutcome.{refused-run, run_as_checked}
use Rattle.clock_run.proofs.run.Goals as goal
use Rattle.clock_run.proofs.run.Goals.{After-lower_of}

pub returns-then-timing-eq-TAKEN : goal.returns-then-timing-eq-TAKEN
returns-then-timing-eq-TAKEN c =
    let tested = c in
    let a = tested.args in
    run_as_checked (timing a.tempo_beats.now a.tempo_values.now a.stop_beats.now a.stop_values.now a.delay_beats.now a.delay_values.now a.warp_beats.now a.warp_lengths.now) a.offset a.global a.cursor a.beats.now a.numbers.now a.times.now a.counts.now (sym tested.check_timing-timing.ensures ∙ c.if-timing-eq-TAKEN.true) c.run_checked.ensures

the_number : (c : After-lower_of) →
    let a = c.args in
    c.lower_of.result ≡ run_number (timing a.tempo_beats.now a.tempo_values.now a.stop_beats.now a.stop_values.now a.delay_beats.now a.delay_values.now a.warp_beats.now a.warp_lengths.now) a.offset a.global a.cursor (length a.beats.now) (length a.numbers.now) (length a.times.now) (length a.counts.now)
unfolding run_number cursor_refusal tempos_of
the_number c =
    rw (← c.check_timing-timing.ensures, ← c.room_number-room.ensures, ← c.refusal-lent.ensures, ← c.lower_of-later.ensures) c.lower_of.ensures

pub returns : goal.returns
returns c =
    let a = c.args in
    refused-run (timing a.tempo_beats.now a.tempo_values.now a.stop_beats.now a.stop_values.now a.delay_beats.now a.delay_values.now a.warp_beats.now a.warp_lengths.now) a.offset a.global a.cursor a.beats.now a.numbers.now a.times.now a.counts.now c.lower_of.result (the_number c) (λ z. c.if-timing-eq-TAKEN.false (lower-none _ _ (sym c.lower_of.ensures ∙ z)).0)
