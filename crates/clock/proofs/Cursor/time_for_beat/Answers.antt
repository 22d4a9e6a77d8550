-- `clock::Cursor::time_for_beat` is `question`. Assumes nothing.
use mathlib.Core.Path.{◌≡◌, ◌∙◌}
use borrow.Author.Tests.{eq-eqb, ne_eqb}
use lib.Ieee.{binary64}
use mir.Syntax.{w32}
use mir.Val.{to_z, of_z}
use Rattle.rows.specs.Rows.{row}
use Rattle.chart.specs.Timing.{Timing, timing}
use Rattle.rows.proofs.BackFromBits.{back}
use Rattle.clock.specs.Question.{cursor_refusal, player_number, tempos_of, question_number, question}
use Rattle.clock.proofs.ReplyByTheWalk.{walked-reply}
use borrow.Author.Rules.{rules}
use Rattle.clock.proofs.Cursor.time_for_beat.Goals as goal

pub returns-then-number-ne-TAKEN : goal.returns-then-number-ne-TAKEN
unfolding question question_number player_number cursor_refusal tempos_of
returns-then-number-ne-TAKEN c =
    rw (← c.check_timing-timing.ensures, ← c.beat_number-asked.ensures, ← c.refusal-lent.ensures, ← c.lower_of-player.ensures, ← c.lower_of-number.ensures, ne_eqb _ _ c.if-number-ne-TAKEN.true) c.refused.ensures

pub answered-requires : goal.answered-requires
answered-requires c = c.walked-walked.ensures.few

pub returns : goal.returns
unfolding question question_number player_number cursor_refusal tempos_of
returns c =
    let a = c.args in
    let t : Timing = timing a.tempo_beats.now a.tempo_values.now a.stop_beats.now a.stop_values.now a.delay_beats.now a.delay_values.now a.warp_beats.now a.warp_lengths.now in
    let asked = c.beat_to_note_row-row in
    let walked = c.walked-walked in
    let r = to_z w32 (of_z w32 asked.result) in
    let is : r ≡ row binary64 a.beat = back asked.result (record { sfits = asked.type_inv }) ∙ asked.ensures in
    rw (← c.check_timing-timing.ensures, ← c.beat_number-asked.ensures, ← c.refusal-lent.ensures, ← c.lower_of-player.ensures, ← c.lower_of-number.ensures, eq-eqb _ _ c.if-number-ne-TAKEN.false)
    (c.answered.ensures ∙ walked-reply t a.self a.offset a.global a.beat r walked.result is walked.ensures.is)
