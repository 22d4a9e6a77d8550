-- `clock_run::run_marked` tests once, the mark too, and asks every beat with it. Assumes nothing.
use Rattle.std.proofs.Common.{◌≡◌, T, length, sym, ◌∙◌, subst}
use Rattle.chart.specs.Timing.{timing}
use Rattle.clock_walk.proofs.NumbersFit.{NumbersFit}
use Rattle.clock.specs.Question.{tempos_of, cursor_refusal}
use Rattle.clock_run.specs.MarkedRun.{marked_run_number}
use Rattle.clock_run.proofs.RunOutcome.{marked_room_for_all, refused_marked_run, taken_marked_run}
use denote.Struct.Laws.{owed}
use Rattle.chart.specs.contracts.State as S
use Rattle.chart.proofs.State.TheLaws as S'
use Rattle.clock_walk.specs.contracts.Mark as M
use Rattle.clock_walk.proofs.Mark.TheLaws as M'
use Rattle.clock_run.proofs.run_marked.Goals as goal
use Rattle.clock_run.proofs.run_marked.Goals.{After-lower_of-number, Start}

the_number : (c : After-lower_of-number) →
    let a = c.args in
    c.lower_of-number.result ≡ marked_run_number a.mark (timing a.tempo_beats.now a.tempo_values.now a.stop_beats.now a.stop_values.now a.delay_beats.now a.delay_values.now a.warp_beats.now a.warp_lengths.now) a.offset a.global a.cursor (length a.beats.now) (length a.numbers.now) (length a.times.now) (length a.counts.now)
unfolding marked_run_number cursor_refusal tempos_of
the_number c =
    rw (← c.check_marked_timing-marked.ensures, ← c.room_number-room.ensures, ← c.refusal-lent.ensures, ← c.lower_of-later.ensures) c.lower_of-number.ensures

-- the numbers of a mark that is handed over are of binary64
numbers_fit : (c : Start) → NumbersFit c.args.mark.state
numbers_fit c =
    let mark = owed M.the_type M'.the_laws c.args.mark _ c.well_formed.1.0 in
    let state = owed S.the_type S'.the_laws c.args.mark.state _ mark.0 in
    (subst T (sym state.1.1.1.1.1.1.0.1) tt, subst T (sym state.1.1.1.1.1.1.1.0.1) tt)

pub ask_each-last-requires : goal.ask_each-last-requires
ask_each-last-requires c =
    let a = c.args in
    marked_room_for_all (timing a.tempo_beats.now a.tempo_values.now a.stop_beats.now a.stop_values.now a.delay_beats.now a.delay_values.now a.warp_beats.now a.warp_lengths.now) a.offset a.global a.cursor a.beats.now a.numbers.now a.times.now a.counts.now a.mark (sym (the_number (goal.at.ask_each-last-requires c).After-lower_of-number) ∙ c.if-number-eq-TAKEN.true)

pub returns-then-number-eq-TAKEN : goal.returns-then-number-eq-TAKEN
returns-then-number-eq-TAKEN c =
    let a = c.args in
    taken_marked_run (timing a.tempo_beats.now a.tempo_values.now a.stop_beats.now a.stop_values.now a.delay_beats.now a.delay_values.now a.warp_beats.now a.warp_lengths.now) a.offset a.global a.cursor a.beats.now a.numbers.now a.times.now a.counts.now a.mark (numbers_fit (goal.at.returns-then-number-eq-TAKEN c).Start) c.ask_each-last.result _ _ _ (sym (the_number (goal.at.returns-then-number-eq-TAKEN c).After-lower_of-number) ∙ c.if-number-eq-TAKEN.true) c.ask_each-last.ensures

pub returns : goal.returns
returns c =
    let a = c.args in
    refused_marked_run (timing a.tempo_beats.now a.tempo_values.now a.stop_beats.now a.stop_values.now a.delay_beats.now a.delay_values.now a.warp_beats.now a.warp_lengths.now) a.offset a.global a.cursor a.beats.now a.numbers.now a.times.now a.counts.now a.mark c.lower_of-number.result (the_number (goal.at.returns c).After-lower_of-number) c.if-number-eq-TAKEN.false
