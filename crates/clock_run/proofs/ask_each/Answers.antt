-- `clock_run::ask_each` asks beat by beat. Assumes nothing.
use Rattle.std.proofs.Common.{◌≡◌, Bool, true, false, get_or, ℤ, sym, ap, ◌∙◌, subst, arith, w32, SFits, to_z, of_z}
use lib.Ieee.{Float, nan, binary64, sub}
use Rattle.rows.specs.Rows.{row}
use Rattle.chart.specs.Timing.{timing}
use Rattle.rows.proofs.BackFromBits.{back}
use Rattle.rows.proofs.RowOrder.{no}
use Rattle.clock_walk.specs.declared.Soon.{Soon}
use Rattle.clock_run.specs.inside.Outlook.{look_on, is_beyond, is_before, quiet_time, soon_before}
use Rattle.clock_run.specs.declared.Outlook.{Outlook}
use Rattle.clock_run.proofs.BeatByBeat.{begun, turned, quiet-turn, ended}
use Rattle.clock_run.proofs.QuietRows.{Sees, quiet-answer, few-before, soon_answer}
use Rattle.clock_run.proofs.BeyondAMark.{beyond-answer, unmarked}
use Rattle.clock_run.proofs.ask_each.Goals as goal
use Rattle.clock_run.proofs.ask_each.Goals.{After-is_beyond}

-- what a test of rows that stand in structs found
test_of : (known : Bool) (until last : ℤ) (beat : Float) (r : ℤ) (found : Bool) → SFits w32 until → SFits w32 last
    → is_before known (to_z w32 (of_z w32 until)) (to_z w32 (of_z w32 last)) beat r ≡ found → is_before known until last beat r ≡ found
test_of known until last beat r found f g h = rw (back until f, back last g) at h

pub loop-i-init : goal.loop-i-init
loop-i-init c =
    let a = c.args in
    (begun a.mark (timing a.tempo_beats.now a.tempo_values.now a.stop_beats.now a.stop_values.now a.delay_beats.now a.delay_values.now a.warp_beats.now a.warp_lengths.now) a.offset a.global a.cursor a.beats.now a.numbers.now a.times.now a.counts.now, λ e. no e)

-- what the test against the mark's row found
beyond-is : (c : After-is_beyond) (found : Bool) → c.is_beyond.result ≡ found →
    let a = c.args in
    let beat = get_or a.beats.now c.loop-i.i nan in
    is_beyond a.mark.row beat (row binary64 beat) ≡ found
beyond-is c found e =
    let a = c.args in
    let beat = get_or a.beats.now c.loop-i.i nan in
    let asked = c.beat_to_note_row-row in
    let is_row = back asked.result (record { sfits = asked.type_inv }) ∙ asked.ensures in
    (rw (back a.mark.row (record { sfits = c.struct_told-1.given.1.0.1 }), is_row) at (sym c.is_beyond.ensures)) ∙ e

pub loop-i-preserved-then-is_beyond : goal.loop-i-preserved-then-is_beyond
loop-i-preserved-then-is_beyond c =
    let s = c in
    let a = s.args in
    let l = c.loop-i in
    let t = timing a.tempo_beats.now a.tempo_values.now a.stop_beats.now a.stop_values.now a.delay_beats.now a.delay_values.now a.warp_beats.now a.warp_lengths.now in
    let beat = get_or a.beats.now l.i nan in
    let asked = c.beat_to_note_row-row in
    let r = to_z w32 (of_z w32 asked.result) in
    let is_row : r ≡ row binary64 beat = back asked.result (record { sfits = asked.type_inv }) ∙ asked.ensures in
    let rate = c.rate_beyond-beyond in
    let is = beyond-answer a.mark t a.offset a.global l.at beat rate.result rate.ensures (beyond-is (goal.at.loop-i-preserved-then-is_beyond c).After-is_beyond true c.if-is_beyond.true) in
    (quiet-turn a.mark t a.offset a.global a.cursor a.beats.now a.numbers.now a.times.now a.counts.now l.at l.numbers l.times l.counts l.i l.invariant.0 (record { state = a.mark.state; passed = 0; time = quiet_time a.mark.state rate.result (row binary64 beat) }) is r is_row _ (ap (λ (x : Float). sub binary64 x a.global) (c.quiet_time.ensures ∙ ap (λ (z : ℤ). quiet_time a.mark.state rate.result z) is_row)) c.loop-i-test.true s.requires.0 s.requires.1 s.requires.2, λ e. no e)

pub loop-i-preserved-then-is_before : goal.loop-i-preserved-then-is_before
loop-i-preserved-then-is_before c =
    let s = c in
    let a = s.args in
    let l = c.loop-i in
    let beat = get_or a.beats.now l.i nan in
    let asked = c.beat_to_note_row-row in
    let r = to_z w32 (of_z w32 asked.result) in
    let is_row : r ≡ row binary64 beat = back asked.result (record { sfits = asked.type_inv }) ∙ asked.ensures in
    let quiet : is_before l.outlook.known l.outlook.row l.at.asked beat r ≡ true =
    test_of l.outlook.known l.outlook.row l.at.asked beat r true (record { sfits = c.struct_told-in-loop-i-1.given.1.0.1 }) (record { sfits = c.struct_told-in-loop-i-2-1.given.1.0.1 }) (sym c.is_before.ensures ∙ c.if-is_before.true) in
    let is = quiet-answer (timing a.tempo_beats.now a.tempo_values.now a.stop_beats.now a.stop_values.now a.delay_beats.now a.delay_values.now a.warp_beats.now a.warp_lengths.now) a.offset a.global l.at beat l.outlook l.invariant.1 (rw is_row at quiet) in
    (quiet-turn a.mark (timing a.tempo_beats.now a.tempo_values.now a.stop_beats.now a.stop_values.now a.delay_beats.now a.delay_values.now a.warp_beats.now a.warp_lengths.now) a.offset a.global a.cursor a.beats.now a.numbers.now a.times.now a.counts.now l.at l.numbers l.times l.counts l.i l.invariant.0 (record { state = l.at.state; passed = 0; time = quiet_time l.at.state l.outlook.rate (row binary64 beat) }) (is ∙ sym (unmarked a.mark (timing a.tempo_beats.now a.tempo_values.now a.stop_beats.now a.stop_values.now a.delay_beats.now a.delay_values.now a.warp_beats.now a.warp_lengths.now) a.offset a.global l.at beat (beyond-is (goal.at.loop-i-preserved-then-is_before c).After-is_beyond false c.if-is_beyond.false))) r is_row _ (ap (λ (x : Float). sub binary64 x a.global) (c.quiet_time-then-is_before.ensures ∙ ap (λ (z : ℤ). quiet_time l.at.state l.outlook.rate z) is_row)) c.loop-i-test.true s.requires.0 s.requires.1 s.requires.2, l.invariant.1)

pub overflow_add-counts : goal.overflow_add-counts
overflow_add-counts c =
    let a = c.args in
    let l = c.loop-i in
    let near = c.soon-near in
    omega (arith, ap (λ (w : Soon). w.passed) near.ensures, few-before a.tempo_beats.now a.tempo_values.now l.outlook l.at (get_or a.beats.now l.i nan) (to_z w32 (of_z w32 c.beat_to_note_row-row.result)))

pub loop-i-preserved-then-near : goal.loop-i-preserved-then-near
loop-i-preserved-then-near c =
    let s = c in
    let a = s.args in
    let l = c.loop-i in
    let beat = get_or a.beats.now l.i nan in
    let asked = c.beat_to_note_row-row in
    let r = to_z w32 (of_z w32 asked.result) in
    let is_row : r ≡ row binary64 beat = back asked.result (record { sfits = asked.type_inv }) ∙ asked.ensures in
    let t = timing a.tempo_beats.now a.tempo_values.now a.stop_beats.now a.stop_values.now a.delay_beats.now a.delay_values.now a.warp_beats.now a.warp_lengths.now in
    let near = c.soon-near in
    let st = near.result.state in
    let behind : is_before l.outlook.known l.outlook.row l.at.asked beat r ≡ false =
    test_of l.outlook.known l.outlook.row l.at.asked beat r false (record { sfits = c.struct_told-in-loop-i-1.given.1.0.1 }) (record { sfits = c.struct_told-in-loop-i-2-1.given.1.0.1 }) (sym c.is_before.ensures ∙ c.if-is_before.false) in
    let is_soon = near.ensures ∙ ap (λ (z : ℤ). soon_before a.tempo_beats.now a.tempo_values.now l.outlook l.at beat z) is_row in
    let found = soon_answer t a.offset a.global l.at beat l.outlook l.invariant.1 (rw is_row at behind) near.result is_soon c.if-near.true in
    let on = look_on a.tempo_beats.now a.tempo_values.now st l.outlook.rest in
    let is_on : c.look_on-on.result ≡ on = rw (back l.outlook.rest (record { sfits = c.struct_told-then-near-1.given.1.1.0.1 })) at c.look_on-on.ensures in
    let is_time = c.quiet_time-then-near.ensures ∙ ap (λ (o : Outlook). quiet_time st o.rate r) is_on ∙ ap (λ (z : ℤ). quiet_time st on.rate z) is_row in
    (quiet-turn a.mark t a.offset a.global a.cursor a.beats.now a.numbers.now a.times.now a.counts.now l.at l.numbers l.times l.counts l.i l.invariant.0 (record { state = st; passed = near.result.passed; time = quiet_time st on.rate (row binary64 beat) }) (found.0 ∙ sym (unmarked a.mark t a.offset a.global l.at beat (beyond-is (goal.at.loop-i-preserved-then-near c).After-is_beyond false c.if-is_beyond.false))) r is_row _ (ap (λ (x : Float). sub binary64 x a.global) is_time) c.loop-i-test.true s.requires.0 s.requires.1 s.requires.2, subst (Sees t st) (sym is_on) found.1)

pub loop-i-preserved : goal.loop-i-preserved
loop-i-preserved c =
    let s = c in
    let a = s.args in
    let l = c.loop-i in
    (turned a.mark (timing a.tempo_beats.now a.tempo_values.now a.stop_beats.now a.stop_values.now a.delay_beats.now a.delay_values.now a.warp_beats.now a.warp_lengths.now) a.offset a.global a.cursor a.beats.now a.numbers.now a.times.now a.counts.now l.at l.numbers l.times l.counts l.i l.invariant.0 c.ask-answer.result (c.ask-answer.ensures ∙ sym (unmarked a.mark (timing a.tempo_beats.now a.tempo_values.now a.stop_beats.now a.stop_values.now a.delay_beats.now a.delay_values.now a.warp_beats.now a.warp_lengths.now) a.offset a.global l.at (get_or a.beats.now l.i nan) (beyond-is (goal.at.loop-i-preserved c).After-is_beyond false c.if-is_beyond.false))) c.loop-i-test.true s.requires.0 s.requires.1 s.requires.2, λ e. c.look_ahead-outlook.ensures)

pub returns : goal.returns
returns c =
    let a = c.args in
    let l = c.loop-i in
    ended a.mark (timing a.tempo_beats.now a.tempo_values.now a.stop_beats.now a.stop_values.now a.delay_beats.now a.delay_values.now a.warp_beats.now a.warp_lengths.now) a.offset a.global a.cursor a.beats.now a.numbers.now a.times.now a.counts.now l.at l.numbers l.times l.counts l.i l.invariant.0 c.loop-i-test.false
