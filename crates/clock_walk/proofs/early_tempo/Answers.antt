-- `clock_walk::early_tempo` meets its contract. Assumes nothing.
use Rattle.rows.proofs.BackFromBits.{back}
use Rattle.std.proofs.Common.{eq-eqb, ne_eqb}
use lib.Ieee.{of_bits}
use Rattle.clock_walk.specs.Passing.{early_tempo}
use Rattle.clock_walk.proofs.early_tempo.Goals as goal

pub returns-then-place-eq0 : goal.returns-then-place-eq0
unfolding early_tempo
returns-then-place-eq0 c =
    rw (eq-eqb _ _ c.if-place-eq0.true, c.get_bpm_for_row.ensures, back c.args.state.row (record { sfits = c.struct_told-1.given.1.1.1.1.0.1 }))

pub returns : goal.returns
unfolding early_tempo of_bits
returns c =
    rw (ne_eqb _ _ c.if-place-eq0.false)
