-- A measure of n rows writes n beats, and note data as many as its measures have rows. Assumes nothing.
use Prim.Native.Nat.{ℕ, zero, suc}
use mathlib.Core.List.{List, [], ◌∷◌}
use mathlib.Core.Path.{◌≡◌, refl, ap, ◌∙◌}
use lib.ListN.{length, length-append, length-map}
use Rattle.notes_rows.specs.Measures.{rows_of, all_rows, measures}
use Rattle.notes_rows.specs.RowBeats.{beat_of_row, rows_from, measure_beats, beats_from, rows_to_beats}

rows-many : (row left : ℕ) → length (rows_from row left) ≡ left
unfolding rows_from
rows-many row zero = refl
rows-many row (suc left) = ap suc (rows-many (suc row) left)

pub measure_writes_rows : (measure rows : ℕ) → length (measure_beats measure rows) ≡ rows
unfolding measure_beats
measure_writes_rows measure rows = length-map (rows_from 0 rows) (beat_of_row measure rows) ∙ rows-many 0 rows

pub measures_write_rows : (measure : ℕ) (list : List (List ℕ)) → length (beats_from measure list) ≡ all_rows list
unfolding beats_from all_rows
measures_write_rows measure [] = refl
measures_write_rows measure (bytes ∷ rest) =
    length-append (measure_beats measure (rows_of bytes)) (beats_from (suc measure) rest)
    ∙ rw (measure_writes_rows measure (rows_of bytes), measures_write_rows (suc measure) rest)

pub data_writes_rows : (note_data : List ℕ) → length (rows_to_beats note_data) ≡ all_rows (measures note_data)
unfolding rows_to_beats
data_writes_rows note_data = measures_write_rows 0 (measures note_data)
