-- `clock::Cursor::time_for_beat_checked` is `player_question`. Assumes nothing.
use Prim.Native.Nat.{◌≤◌}
use mathlib.Core.Path.{◌≡◌, refl, sym, ◌∙◌}
use native.Mathlib.Omega.{arith}
use borrow.Author.Tests.{eq-eqb, ne_eqb}
use lib.Ieee.{binary64}
use mir.Syntax.{w32}
use mir.Val.{to_z, of_z}
use Rattle.rows.specs.Rows.{row}
use Rattle.chart.specs.Timing.{Timing, timing}
use Rattle.rows.proofs.BackFromBits.{back}
use Rattle.clock_walk.proofs.OneTempo.{soon_few}
use Rattle.clock.proofs.ReplyByTheWalk.{soon_walked, soon_reply, walked-reply}
use Rattle.clock.proofs.PlayerNumber.{beat-refused, cursor-refused, both-taken}
use borrow.Author.Rules.{rules}
use Rattle.clock.proofs.Cursor.time_for_beat_checked.Goals as goal

pub returns-then-asked-ne-TAKEN : goal.returns-then-asked-ne-TAKEN
returns-then-asked-ne-TAKEN c =
    let a = c.args in
    let t : Timing = timing a.tempo_beats.now a.tempo_values.now a.stop_beats.now a.stop_values.now a.delay_beats.now a.delay_values.now a.warp_beats.now a.warp_lengths.now in
    let asked = c.beat_number-asked in
    c.refused.ensures ∙ beat-refused t a.self a.offset a.global a.beat asked.result asked.ensures (ne_eqb _ _ c.if-asked-ne-TAKEN.true)

pub row_of_taken-row-requires : goal.row_of_taken-row-requires
row_of_taken-row-requires c = sym c.beat_number-asked.ensures ∙ c.if-asked-ne-TAKEN.false

pub answered-requires : goal.answered-requires
answered-requires c =
    let a = c.args in
    let found = c.soon-soon in
    let is-soon = found.ensures c.if-soon.true in
    let few : found.result.passed ≤ 1 = rw is-soon.1 (soon_few a.tempo_beats.now a.tempo_values.now _ a.self.state) in
    omega (arith, few)

pub returns-then-soon : goal.returns-then-soon
returns-then-soon c =
    let a = c.args in
    let t : Timing = timing a.tempo_beats.now a.tempo_values.now a.stop_beats.now a.stop_values.now a.delay_beats.now a.delay_values.now a.warp_beats.now a.warp_lengths.now in
    let asked = c.beat_number-asked in
    let on = c.row_of_taken-row in
    let r = to_z w32 (of_z w32 on.result) in
    let found = c.soon-soon in
    let whole = c.if-soon.true in
    let is-soon = found.ensures whole in
    let is : r ≡ row binary64 a.beat = back on.result (record { sfits = on.type_inv }) ∙ on.ensures in
    (rw c.quiet_time-time.ensures at c.answered.ensures) ∙ soon_reply t a.self a.offset a.global a.beat r _ is is-soon.0.later is-soon.0.some (soon_walked t r a.self.state found.result is-soon.1 whole is-soon.0.passed is-soon.0.only)
    ∙ both-taken t a.self a.offset a.global a.beat asked.result asked.ensures (eq-eqb _ _ c.if-asked-ne-TAKEN.false) _ refl (eq-eqb _ _ is-soon.0.taken)

pub returns-then-lent-ne-TAKEN : goal.returns-then-lent-ne-TAKEN
returns-then-lent-ne-TAKEN c =
    let a = c.args in
    let t : Timing = timing a.tempo_beats.now a.tempo_values.now a.stop_beats.now a.stop_values.now a.delay_beats.now a.delay_values.now a.warp_beats.now a.warp_lengths.now in
    let asked = c.beat_number-asked in
    let lent = c.refusal-lent in
    c.refused-then-lent-ne-TAKEN.ensures ∙ cursor-refused t a.self a.offset a.global a.beat asked.result asked.ensures (eq-eqb _ _ c.if-asked-ne-TAKEN.false) lent.result lent.ensures (ne_eqb _ _ c.if-lent-ne-TAKEN.true)

pub answered-requires-2 : goal.answered-requires-2
answered-requires-2 c = c.walked-walked.ensures.few

pub returns : goal.returns
returns c =
    let a = c.args in
    let t : Timing = timing a.tempo_beats.now a.tempo_values.now a.stop_beats.now a.stop_values.now a.delay_beats.now a.delay_values.now a.warp_beats.now a.warp_lengths.now in
    let asked = c.beat_number-asked in
    let on = c.row_of_taken-row in
    let walked = c.walked-walked in
    let lent = c.refusal-lent in
    let r = to_z w32 (of_z w32 on.result) in
    let is : r ≡ row binary64 a.beat = back on.result (record { sfits = on.type_inv }) ∙ on.ensures in
    c.answered-2.ensures ∙ walked-reply t a.self a.offset a.global a.beat r walked.result is walked.ensures.is
    ∙ both-taken t a.self a.offset a.global a.beat asked.result asked.ensures (eq-eqb _ _ c.if-asked-ne-TAKEN.false) lent.result lent.ensures (eq-eqb _ _ c.if-lent-ne-TAKEN.false)
