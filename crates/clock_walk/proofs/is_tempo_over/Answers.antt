-- `clock_walk::is_tempo_over` says yes only where a tempo is ahead and has come. Assumes nothing.
use Rattle.std.proofs.Common.{◌≡◌, Bool, true, false, not, refl}
use Rattle.rows.proofs.BackFromBits.{back}
use Rattle.rows.proofs.RowOrder.{no}
use Rattle.clock_walk.proofs.is_tempo_over.Goals as goal

not-true : (b : Bool) → not b ≡ true → b ≡ false
not-true true e = no e
not-true false e = refl

pub returns-then-is_tempo_ahead : goal.returns-then-is_tempo_ahead
returns-then-is_tempo_ahead c =
    let a = c.args in
    let row = back a.heads.tempo (record { sfits = c.struct_told-1.given.1.0.1 }) in
    λ e. (c.is_tempo_ahead.ensures c.if-is_tempo_ahead.true, not-true _ (rw (c.time_at.ensures, row) at e))

pub returns : goal.returns
returns c = λ e. no e
