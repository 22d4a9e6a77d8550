-- `notes_rows::count_rows` adds up the rows of every measure. Assumes nothing.
use Prim.Native.Nat.{◌+◌, ◌-◌, ◌≤◌}
use mathlib.Core.Path.{◌≡◌}
use lib.ListN.{length}
use Rattle.notes_rows.specs.Measures.{measures, all_rows}
use Rattle.notes_rows.specs.inside.Counting.{measures_from}
use Rattle.notes_rows.proofs.count_rows.Given as goal

abbrev pub invariant-loop-place : goal.invariant-loop-place
invariant-loop-place l = (l.place ≤ length l.note_data + 1) × (l.rows + all_rows (measures_from l.place l.note_data) ≡ all_rows (measures l.note_data))

abbrev pub decreases-loop-place : goal.decreases-loop-place
decreases-loop-place l = length l.note_data + 1 - l.place
