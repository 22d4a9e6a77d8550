-- What the steps of counting and writing speak of. Definitions only.
use Rattle.std.specs.Prelude.{ℕ, ◌+◌, Bool, true, false, ◌≡◌, List, [], ◌∷◌, leb, eqb, length, drop}
use Rattle.picks.specs.Pick.{pick}
use Rattle.notes_rows.specs.Measures.{first_part, comma, measures, line_feed, is_blank, one_if, rows_of}
use Rattle.notes_rows.specs.declared.Measure.{Measure}

-- The rows of a measure, byte by byte: a row is begun where one of its bytes is not blank, and is counted where it ends, at a line feed or at the measure's end.
unfoldable pub rows_from_here : (begun : Bool) → List ℕ → ℕ
rows_from_here begun [] = one_if begun
rows_from_here begun (byte ∷ bytes) =
    pick (eqb byte line_feed) (one_if begun + rows_from_here false bytes) (rows_from_here (pick (is_blank byte) begun true) bytes)

-- the measures from a place of the data on; behind the data's end there is none
unfoldable pub measures_from : ℕ → List ℕ → List (List ℕ)
measures_from place note_data = pick (leb place (length note_data)) (measures (drop place note_data)) []

-- the measure that begins at a place
abbrev pub measure_at : ℕ → List ℕ → List ℕ
measure_at place note_data = first_part comma (drop place note_data)

-- its rows, and the place where it ends
pub record MeasureCounted (note_data : List ℕ) (place : ℕ) (measure : Measure) : Type 0 where
  pub rows : measure.rows ≡ rows_of (measure_at place note_data)
  pub end : measure.end ≡ place + length (measure_at place note_data)
