-- `clock::Cursor::is_near` says yes only where the cursor is not refused, the walk goes on from here and nothing but tempos is due. Assumes nothing.
use mathlib.Core.Bool.{false}
use mathlib.Core.Path.{sym, ◌∙◌}
use Rattle.rows.proofs.BackFromBits.{back, tested}
use Rattle.rows.proofs.RowOrder.{no}
use Rattle.clock.proofs.NearTaken.{some-tempos, near-taken}
use borrow.Author.Rules.{rules}
use Rattle.clock.proofs.Cursor.is_near.Goals as goal

pub returns-then-row-self : goal.returns-then-row-self
returns-then-row-self c = λ e. no e

pub returns-then-is_past_tempo : goal.returns-then-is_past_tempo
returns-then-is_past_tempo c =
    let first = c in
    let s = first in
    let a = s.args in
    let p = c.is_past_tempo.ensures c.if-is_past_tempo.true in
    let later = tested a.row a.self.asked s.ranges.row (record { sfits = first.struct_told-1.given.1.0.1 }) false first.if-row-self.false in
    λ e.
    let only = rw (back a.row s.ranges.row) at (sym c.is_only_tempos.ensures ∙ e) in
    record {
      later = later;
      some = some-tempos a.tempo_beats.now a.stop_beats.now a.delay_beats.now a.warp_beats.now a.self a.row p;
      passed = p.passed;
      only = only;
      taken = near-taken a.tempo_beats.now a.stop_beats.now a.delay_beats.now a.warp_beats.now a.self a.row p later only;
    }

pub returns : goal.returns
returns c = λ e. no e
