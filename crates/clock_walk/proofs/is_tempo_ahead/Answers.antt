-- `clock_walk::is_tempo_ahead` says yes only where the tempo's row is before all others. Assumes nothing.
use Rattle.std.proofs.Common.{◌≡◌, true, w32, SFits}
use lib.Signed.{lt_z}
use Rattle.rows.proofs.BackFromBits.{tested}
use Rattle.clock_walk.specs.Events.{farthest}
use Rattle.rows.proofs.RowOrder.{no, lt_le}
use Rattle.clock_walk.proofs.HeadsAhead.{not_behind, tempo-found}
use Rattle.clock_walk.proofs.is_tempo_ahead.Goals as goal

pub returns-then-heads-3 : goal.returns-then-heads-3
returns-then-heads-3 c =
    let s = c in
    let h = s.args.heads in
    let g = c.struct_told-then-heads-3-1.given in
    let f : SFits w32 h.tempo = record { sfits = g.1.0.1 } in
    let stops : SFits w32 h.stop = record { sfits = g.1.1.1.0.1 } in
    let stop : lt_z h.tempo h.stop ≡ true = tested h.tempo h.stop f stops true c.if-heads.true in
    λ e.
    tempo-found h (lt_le h.tempo h.stop farthest stop (not_behind h.stop stops)) stop
    (tested h.tempo h.delay f (record { sfits = g.1.1.0.1 }) true c.if-heads-2.true)
    (tested h.tempo h.warp f (record { sfits = g.1.1.1.1.0.1 }) true c.if-heads-3.true)
    (tested h.tempo h.end f (record { sfits = g.0.1 }) true e)

pub returns-then-heads-2 : goal.returns-then-heads-2
returns-then-heads-2 c = λ e. no e

pub returns-then-heads : goal.returns-then-heads
returns-then-heads c = λ e. no e

pub returns : goal.returns
returns c = λ e. no e
