-- `clock::check_marked_timing` is `marked_timing_number`. Assumes nothing.
use mathlib.Core.Path.{sym, ◌∙◌}
use Rattle.chart.specs.Timing.{Timing, timing}
use Rattle.clock.proofs.MarkTested.{own-taken, other-refused, timing-refused}
use borrow.Author.Rules.{rules}
use Rattle.clock.proofs.check_marked_timing.Goals as goal

pub returns-then-is_same_mark : goal.returns-then-is_same_mark
returns-then-is_same_mark c =
    let a = c.args in
    let t : Timing = timing a.tempo_beats.now a.tempo_values.now a.stop_beats.now a.stop_values.now a.delay_beats.now a.delay_values.now a.warp_beats.now a.warp_lengths.now in
    let made = c.make_mark-made in
    own-taken a.mark t a.offset a.global made.result made.ensures c.if-made-eq-TAKEN.true (sym c.is_same_mark.ensures ∙ c.if-is_same_mark.true)

pub returns-then-made-eq-TAKEN : goal.returns-then-made-eq-TAKEN
returns-then-made-eq-TAKEN c =
    let a = c.args in
    let t : Timing = timing a.tempo_beats.now a.tempo_values.now a.stop_beats.now a.stop_values.now a.delay_beats.now a.delay_values.now a.warp_beats.now a.warp_lengths.now in
    let made = c.make_mark-made in
    other-refused a.mark t a.offset a.global made.result made.ensures c.if-made-eq-TAKEN.true (sym c.is_same_mark.ensures ∙ c.if-is_same_mark.false)

pub returns : goal.returns
returns c =
    let a = c.args in
    let t : Timing = timing a.tempo_beats.now a.tempo_values.now a.stop_beats.now a.stop_values.now a.delay_beats.now a.delay_values.now a.warp_beats.now a.warp_lengths.now in
    let made = c.make_mark-made in
    timing-refused a.mark t a.offset a.global made.result made.ensures c.if-made-eq-TAKEN.false
