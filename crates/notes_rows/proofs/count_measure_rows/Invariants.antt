-- `notes_rows::count_measure_rows` counts up to the comma, or to the data's end. Assumes nothing.
use Rattle.notes_rows.proofs.CountingRows.{Counting}
use Rattle.notes_rows.proofs.count_measure_rows.Given as goal

abbrev pub invariant-loop-i : goal.invariant-loop-i
invariant-loop-i l = Counting l.note_data l.place l.rows l.begun l.i
