-- `clock_walk::get_bpm_for_row` meets its contract. Assumes nothing.
use Rattle.rows.proofs.BackFromBits.{back}
use Rattle.clock_walk.specs.Passing.{tempo_at}
use Rattle.clock_walk.proofs.get_bpm_for_row.Goals as goal

pub returns : goal.returns
unfolding tempo_at
returns c =
    let s = c in
    rw (← back s.args.row s.ranges.row, ← c.note_row_to_beat-beat.ensures, ← c.first_tempo-first.ensures) c.last_up_to.ensures
