-- Marks of warps tidied by themselves, as values of the same beats. Definitions only.
use Rattle.std.specs.Prelude.{ℕ, List, map, ◌≡◌, length, Float}
use Rattle.picks.specs.Pick.{pick}
use Rattle.limits.specs.declared.Kind.TheVariants.{Beat}
use Rattle.limits.specs.Table.{bad_beat, bad_value}
use Rattle.limits.specs.Numbers.{range_of, all_in, every}
use Rattle.limits.specs.Refusals.{sizes_then}
use Rattle.order.specs.Order.{laid}
use Rattle.rows.specs.Rows.{quantized}
use Rattle.columns.specs.declared.Outcome.{Outcome}
use Rattle.columns.specs.Laying.{room_number, given}
use Rattle.tidy_warps.specs.Marks.{is_mark}
use Rattle.tidy_warps.specs.WarpTidying.{tidy_marks}

-- the tests of a list of beats and marks by itself
unfoldable pub marked_number : List Float → List ℕ → ℕ
marked_number beats marks =
    sizes_then (length beats) (length marks) (pick (all_in (range_of Beat) beats) (pick (every is_mark marks) 0 bad_value) bad_beat)

-- the one outcome of the call that tidies them
pub record MarksTidied (beats : List Float) (marks : List ℕ) (outcome : Outcome) (old new : List ℕ) : Type 0 where
  pub number : outcome.number ≡ room_number (marked_number beats marks) (length (tidy_marks beats marks)) (length old)
  pub count : outcome.count ≡ length (given outcome.number (tidy_marks beats marks))
  pub marks_are : new ≡ laid (given outcome.number (tidy_marks beats marks)) old

-- the one outcome of the call that assembles them
abbrev pub MarksAssembled : List Float → List ℕ → Outcome → List ℕ → List ℕ → Type 0
MarksAssembled beats marks = MarksTidied (map quantized beats) marks
