-- Marks beside the lists that are lent to a call. Definitions only.
use Rattle.std.specs.Prelude.{ℕ, List, ◌≡◌, Float}
use Rattle.order.specs.Order.{laid}
use Rattle.columns.specs.Laying.{given}
use Rattle.std.specs.Borrow.{Bor}
use denote.Triple.Both.{Both}
use Rattle.chart.specs.ChartColumns.{Lent}
use Rattle.assembly_marks.specs.AssembledMarks.{merged_marks, assembled_marks}

-- the marks of warps as they are given, and the room for those of the assembled warps as it was
pub record MarkColumns : Type 0 where
  pub given : List ℕ
  pub room : List ℕ

abbrev pub mark_columns : (given room : List ℕ) → MarkColumns
mark_columns given room = record { given = given; room = room }

abbrev pub lent_marks : (marks : Both (Bor (List ℕ)) (Bor (List ℕ))) (room : Lent ℕ) → MarkColumns
lent_marks marks room = mark_columns marks.entry.now room.entry.now

-- with so many warps made behind the given ones
abbrev pub with_made : ℕ → MarkColumns → MarkColumns
with_made made marks = mark_columns (merged_marks marks.given made) marks.room

-- the marks that assembly leaves of warps with these beats, over the front of their room; after a refusal nothing is written
abbrev pub MarksWritten : (number : ℕ) (beats : List Float) → MarkColumns → (left : List ℕ) → Type 0
MarksWritten number beats marks left = left ≡ laid (given number (assembled_marks beats marks.given)) marks.room
