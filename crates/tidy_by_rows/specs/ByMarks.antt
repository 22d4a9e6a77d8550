-- Beats by the marks of their rows. Definitions only.
use Rattle.std.specs.Prelude.{Bool, ltb, Float}
use Rattle.rows.specs.Marks.{row_mark, beat_of_mark}
use Rattle.rows.specs.RowKey.{row_key_at}

-- the next beat is on a later row
abbrev pub row_rises : Float → Float → Bool
row_rises beat next = ltb (row_key_at beat) (row_key_at next)

-- a beat moved to its row, by the mark: the beat of its row where it is allowed
abbrev pub on_marked_row : Float → Float
on_marked_row beat = beat_of_mark (row_mark beat)
