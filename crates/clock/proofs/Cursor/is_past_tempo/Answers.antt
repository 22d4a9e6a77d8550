-- `clock::Cursor::is_past_tempo` says yes only where each of its tests passed. Assumes nothing.
use mathlib.Core.Bool.{false}
use mathlib.Core.Path.{sym, ◌∙◌}
use borrow.Author.Tests.{ne_eqb}
use mir.Syntax.{w32}
use mir.Val.{SFits}
use Rattle.rows.proofs.BackFromBits.{back}
use Rattle.clock_walk.proofs.LaterBeats.{not_below_lem}
use Rattle.rows.proofs.RowOrder.{no}
use borrow.Author.Rules.{rules}
use Rattle.clock.proofs.Cursor.is_past_tempo.Goals as goal

pub returns-then-self-lt0 : goal.returns-then-self-lt0
returns-then-self-lt0 c = λ e. no e

pub returns-then-state-lt0 : goal.returns-then-state-lt0
returns-then-state-lt0 c = λ e. no e

pub returns-then-state-gt3145728 : goal.returns-then-state-gt3145728
returns-then-state-gt3145728 c = λ e. no e

pub returns-then-place-eq0 : goal.returns-then-place-eq0
returns-then-place-eq0 c = λ e. no e

pub returns-then-tempos-place : goal.returns-then-tempos-place
returns-then-tempos-place c = λ e. no e

pub returns : goal.returns
returns c =
    let third = c in
    let second = third in
    let first = second in
    let a = first.args in
    let asked-fits : SFits w32 a.self.asked = record { sfits = first.struct_told-1.given.1.0.1 } in
    let row_fits : SFits w32 a.self.state.row = record { sfits = second.struct_told-2-1.given.1.1.1.1.0.1 } in
    λ e. record {
      asked_from_zero = not_below_lem a.self.asked false asked-fits first.if-self-lt0.false;
      row_from_zero = not_below_lem a.self.state.row false row_fits second.if-state-lt0.false;
      row_within = rw (back a.self.state.row row_fits) at third.if-state-gt3145728.false;
      passed = ne_eqb _ _ c.if-place-eq0.false;
      within = c.if-tempos-place.false;
      numbers_in = sym c.time_and_end_in.ensures ∙ e;
    }
