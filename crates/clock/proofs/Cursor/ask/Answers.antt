-- `clock::Cursor::ask` is `asking`. Assumes nothing.
use mathlib.Core.Path.{◌≡◌, ◌∙◌}
use borrow.Author.Tests.{ne_eqb}
use lib.Ieee.{binary64}
use mir.Syntax.{w32}
use mir.Val.{to_z, of_z}
use Rattle.rows.specs.Rows.{row}
use Rattle.chart.specs.Timing.{Timing, timing}
use Rattle.rows.proofs.BackFromBits.{back}
use Rattle.clock.specs.Question.{asking}
use Rattle.clock.proofs.ReplyByTheWalk.{walked-reply, reply-asked}
use borrow.Author.Rules.{rules}
use Rattle.clock.proofs.Cursor.ask.Goals as goal

pub answered-requires : goal.answered-requires
answered-requires c = c.walk_filled-walked.ensures.few

pub returns-then-number-eq-TAKEN : goal.returns-then-number-eq-TAKEN
returns-then-number-eq-TAKEN c =
    let a = c.args in
    let t : Timing = timing a.tempo_beats.now a.tempo_values.now a.stop_beats.now a.stop_values.now a.delay_beats.now a.delay_values.now a.warp_beats.now a.warp_lengths.now in
    let number = c.beat_number-number in
    let asked = c.beat_to_note_row-row in
    let walked = c.walk_filled-walked in
    let r = to_z w32 (of_z w32 asked.result) in
    let is : r ≡ row binary64 a.beat = back asked.result (record { sfits = asked.type_inv }) ∙ asked.ensures in
    c.answered.ensures ∙ walked-reply t a.self a.offset a.global a.beat r walked.result is (rw c.begin-begin.ensures at walked.ensures.is)
    ∙ reply-asked t a.self a.offset a.global a.beat number.result number.ensures c.if-number-eq-TAKEN.true

pub returns : goal.returns
unfolding asking
returns c =
    rw (← c.beat_number-number.ensures, ne_eqb _ _ c.if-number-eq-TAKEN.false) c.refused.ensures
