-- Warps with their marks, tidied by row. Definitions only.
use Rattle.std.specs.Prelude.{ℕ, min, List, map, ◌≡◌, length, Float}
use Rattle.limits.specs.Refusals.{lower}
use Rattle.order.specs.Entries.{entries, first, second}
use Rattle.columns.specs.declared.Outcome.{Outcome}
use Rattle.columns.specs.Laying.{room_number, given, column_laid}
use Rattle.tidy_rows.specs.RowTidying.{tidy_rows, rows_number}
use Rattle.tidy_warps.specs.Marks.{Warp, length_of, warp_mark, marks_number}

-- a length and a mark are carried together, as one value of their row
abbrev pub tidy_warps : List Float → List Float → List ℕ → List Warp
tidy_warps beats lengths marks = tidy_rows beats (entries lengths marks)

-- the lowest number of the list and of its marks
abbrev pub marked_warps_number : List Float → List Float → List ℕ → ℕ
marked_warps_number beats lengths marks = lower (rows_number beats lengths) (marks_number (length beats) marks)

-- the one outcome of the call, with the rooms of beats, lengths and marks before and after: the shortest room counts
pub record WarpsTidied (beats lengths : List Float) (marks : List ℕ) (outcome : Outcome)
    (beats_old beats_new lengths_old lengths_new : List Float) (marks_old marks_new : List ℕ) : Type 0 where
  pub number : outcome.number
      ≡ room_number (marked_warps_number beats lengths marks) (length (tidy_warps beats lengths marks)) (min (min (length beats_old) (length lengths_old)) (length marks_old))
  pub count : outcome.count ≡ length (given outcome.number (tidy_warps beats lengths marks))
  pub beats_are : beats_new ≡ column_laid first outcome.number (tidy_warps beats lengths marks) beats_old
  pub lengths_are : lengths_new ≡ column_laid length_of outcome.number (tidy_warps beats lengths marks) lengths_old
  pub marks_are : marks_new ≡ column_laid warp_mark outcome.number (tidy_warps beats lengths marks) marks_old

-- ---- the marks alone, as values of the same beats
unfoldable pub tidy_marks : List Float → List ℕ → List ℕ
tidy_marks beats marks = map second (tidy_rows beats marks)
