-- `clock::Cursor::time_for_beat_checked_marked` is `marked_player_question`. Assumes nothing.
use mathlib.Core.Path.{◌≡◌, sym, ◌∙◌}
use mathlib.Core.Bool.{Bool, true, false}
use borrow.Author.Tests.{eq-eqb, ne_eqb}
use lib.Ieee.{binary64}
use lib.Signed.{lt_z}
use mir.Syntax.{w32}
use mir.Val.{to_z, of_z}
use Rattle.rows.specs.Rows.{row}
use Rattle.chart.specs.Timing.{Timing, timing}
use Rattle.rows.proofs.BackFromBits.{test-is}
use Rattle.clock.specs.Marked.{marked_player_question}
use Rattle.clock.proofs.PlayerNumber.{asked-first, cursor-next}
use Rattle.clock.proofs.MarkedReply.{player_before, beyond-reply}
use borrow.Author.Rules.{rules}
use Rattle.clock.proofs.Cursor.time_for_beat_checked_marked.Goals as goal
use Rattle.clock.proofs.Cursor.time_for_beat_checked_marked.Goals.{After-struct_told-1}

pub returns-then-asked-ne-TAKEN : goal.returns-then-asked-ne-TAKEN
unfolding marked_player_question
returns-then-asked-ne-TAKEN c =
    let a = c.args in
    let t : Timing = timing a.tempo_beats.now a.tempo_values.now a.stop_beats.now a.stop_values.now a.delay_beats.now a.delay_values.now a.warp_beats.now a.warp_lengths.now in
    let asked = c.beat_number-asked in
    let none = ne_eqb _ _ c.if-asked-ne-TAKEN.true in
    rw (asked-first t a.self a.offset a.global a.beat asked.result asked.ensures none, none) c.refused.ensures

pub row_of_taken-row-requires : goal.row_of_taken-row-requires
row_of_taken-row-requires c = sym c.beat_number-asked.ensures ∙ c.if-asked-ne-TAKEN.false

-- what the test against the mark's row found, of the beat's row
test : (c : After-struct_told-1) (found : Bool) → lt_z (to_z w32 (of_z w32 c.args.mark.row)) (to_z w32 (of_z w32 c.row_of_taken-row.result)) ≡ found
    → lt_z c.args.mark.row (row binary64 c.args.beat) ≡ found
test c found h =
    let on = c.row_of_taken-row in
    test-is c.args.mark.row on.result _ found (record { sfits = c.struct_told-1.given.1.0.1 }) (record { sfits = on.type_inv }) h on.ensures

pub returns-then-lent-ne-TAKEN : goal.returns-then-lent-ne-TAKEN
unfolding marked_player_question
returns-then-lent-ne-TAKEN c =
    let a = c.args in
    let t : Timing = timing a.tempo_beats.now a.tempo_values.now a.stop_beats.now a.stop_values.now a.delay_beats.now a.delay_values.now a.warp_beats.now a.warp_lengths.now in
    let asked = c.beat_number-asked in
    let lent = c.refusal-lent in
    rw (cursor-next t a.self a.offset a.global a.beat asked.result asked.ensures (eq-eqb _ _ c.if-asked-ne-TAKEN.false) lent.result lent.ensures, ne_eqb _ _ c.if-lent-ne-TAKEN.true) c.refused-then-lent-ne-TAKEN.ensures

pub returns-then-mark-row : goal.returns-then-mark-row
unfolding marked_player_question
returns-then-mark-row c =
    let a = c.args in
    let t : Timing = timing a.tempo_beats.now a.tempo_values.now a.stop_beats.now a.stop_values.now a.delay_beats.now a.delay_values.now a.warp_beats.now a.warp_lengths.now in
    let asked = c.beat_number-asked in
    let on = c.row_of_taken-row in
    let lent = c.refusal-lent in
    rw (cursor-next t a.self a.offset a.global a.beat asked.result asked.ensures (eq-eqb _ _ c.if-asked-ne-TAKEN.false) lent.result lent.ensures, eq-eqb _ _ c.if-lent-ne-TAKEN.false)
    (c.answer_beyond.ensures ∙ beyond-reply a.mark t a.self a.offset a.global a.beat on.result on.type_inv on.ensures (test (goal.at.returns-then-mark-row c).After-struct_told-1 true c.if-mark-row.true))

pub returns : goal.returns
returns c =
    let a = c.args in
    let t : Timing = timing a.tempo_beats.now a.tempo_values.now a.stop_beats.now a.stop_values.now a.delay_beats.now a.delay_values.now a.warp_beats.now a.warp_lengths.now in
    c.time_for_beat_checked.ensures ∙ sym (player_before a.mark t a.self a.offset a.global a.beat (test (goal.at.returns c).After-struct_told-1 false c.if-mark-row.false))
