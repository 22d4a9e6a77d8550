-- `notes_rows::write_measure` writes the beat of each row of a measure. Assumes nothing.
use mathlib.Core.Path.{◌≡◌}
use mathlib.Core.List.{◌++◌}
use lib.ListN.{take}
use Rattle.notes_rows.specs.RowBeats.{measure_beats}
use Rattle.notes_rows.proofs.RowByRow.{beats_left}
use Rattle.notes_rows.proofs.write_measure.Given as goal

abbrev pub invariant-loop-row : goal.invariant-loop-row
invariant-loop-row l = take l.row l.beat-items ++ beats_left l.measure l.rows l.row ≡ measure_beats l.measure l.rows
