-- `clock_by_time::beat_on` is `beat_on`. Assumes nothing.
use lib.Ieee.{of_bits}
use Rattle.rows.proofs.BackFromBits.{back}
use Rattle.clock_by_time.specs.BeatAt.{beat_on}
use Rattle.clock_by_time.proofs.beat_on.Goals as goal

pub returns : goal.returns
unfolding beat_on of_bits
returns c =
    let row = c in
    let s = row in
    rw (c.mul_add_f64.ensures, row.note_row_to_beat-beat.ensures, back s.args.state.row (record { sfits = row.struct_told-1.given.1.1.1.1.0.1 }))
