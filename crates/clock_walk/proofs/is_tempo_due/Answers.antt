-- `clock_walk::is_tempo_due` says yes only where a tempo is ahead and not behind the asked row. Assumes nothing.
use Rattle.std.proofs.Common.{false}
use Rattle.rows.proofs.BackFromBits.{tested}
use Rattle.rows.proofs.RowOrder.{no}
use Rattle.clock_walk.proofs.HeadsAhead.{tempo-due}
use Rattle.clock_walk.proofs.is_tempo_due.Goals as goal

pub returns-then-asked-heads : goal.returns-then-asked-heads
returns-then-asked-heads c = λ e. no e

pub returns : goal.returns
returns c =
    let s = c in
    let a = s.args in
    λ e.
    tempo-due a.heads (c.is_tempo_ahead.ensures e) a.asked
    (tested a.asked a.heads.tempo s.ranges.asked (record { sfits = c.struct_told-1.given.1.0.1 }) false c.if-asked-heads.false)
