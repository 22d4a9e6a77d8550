-- `notes_rows::write_measures` writes the beats of each measure behind those before. Assumes nothing.
use Prim.Native.Nat.{◌+◌, ◌-◌}
use lib.ListN.{length}
use Rattle.notes_rows.proofs.WritingMeasures.{Writing}
use Rattle.notes_rows.proofs.write_measures.Given as goal

abbrev pub invariant-loop-place : goal.invariant-loop-place
invariant-loop-place l = Writing l.note_data l.initial.beats l.beats l.index l.written l.place

abbrev pub decreases-loop-place : goal.decreases-loop-place
decreases-loop-place l = length l.note_data + 1 - l.place
