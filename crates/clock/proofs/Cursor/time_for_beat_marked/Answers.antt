-- `clock::Cursor::time_for_beat_marked` is `marked_question`. Assumes nothing.
use mathlib.Core.Path.{sym, ◌∙◌}
use borrow.Author.Tests.{eq-eqb, ne_eqb}
use Rattle.limits.proofs.NoRefusal.{lower-none}
use Rattle.clock.specs.Question.{cursor_refusal, player_number, tempos_of}
use Rattle.clock.specs.Marked.{marked_asking, marked_question_number, marked_question}
use borrow.Author.Rules.{rules}
use Rattle.clock.proofs.Cursor.time_for_beat_marked.Goals as goal

pub returns-then-number-ne-TAKEN : goal.returns-then-number-ne-TAKEN
unfolding marked_question marked_question_number player_number cursor_refusal tempos_of
returns-then-number-ne-TAKEN c =
    rw (← c.check_marked_timing-marked.ensures, ← c.beat_number-asked.ensures, ← c.refusal-lent.ensures, ← c.lower_of-player.ensures, ← c.lower_of-number.ensures, ne_eqb _ _ c.if-number-ne-TAKEN.true) c.refused.ensures

pub returns : goal.returns
unfolding marked_question marked_asking marked_question_number player_number cursor_refusal tempos_of
returns c =
    let number = c.lower_of-number in
    let player = c.lower_of-player in
    let asked = c.beat_number-asked in
    let taken = (lower-none _ _ (sym player.ensures ∙ (lower-none _ _ (sym number.ensures ∙ c.if-number-ne-TAKEN.false)).1)).0 in
    rw (← c.check_marked_timing-marked.ensures, ← c.beat_number-asked.ensures, ← c.refusal-lent.ensures, ← c.lower_of-player.ensures, ← c.lower_of-number.ensures, eq-eqb _ _ c.if-number-ne-TAKEN.false)
    (rw (← asked.ensures, eq-eqb _ _ taken) at c.ask_marked.ensures)
