-- The row store: the rows of stops, delays, warps and fakes, one part behind another. Definitions only.
use Rattle.std.specs.Prelude.{ℕ, Bool, true, false, List, [], ◌∷◌, ◌++◌, map, ◌≡◌, ℤ, length, Float}
use Rattle.std.specs.Float.{binary32}
use Rattle.std.specs.Float.Ieee.{lt}
use Rattle.ieee.specs.Constants.{plus_zero}
use Rattle.picks.specs.Pick.{pick}
use Rattle.rows.specs.Rows.{row}
use Rattle.limits.specs.declared.Kind.TheVariants.{Beat, Pause, Value}
use Rattle.limits.specs.Numbers.{range_of}
use Rattle.limits.specs.Refusals.{lower, list_number}
use Rattle.order.specs.Order.{ordered, tidied, laid}
use Rattle.order.specs.Entries.{entries, second}
use Rattle.rows.specs.RowKey.{row_key}
use Rattle.columns.specs.Laying.{room_number, given}
use Rattle.tidy_warps.specs.Marks.{marks_number}
use Rattle.lookup_tests.specs.LookupLists.{LookupLists}
use Rattle.lookup_row_store.specs.declared.Stored.{Stored}

-- whether an entry has a row in the store: of stops and delays, the pauses, those above 0
abbrev pub is_stored : Bool → Float → Bool
is_stored pauses value = pick pauses (lt plus_zero value) true

-- the f32 rows of a list's stored entries, as they come
unfoldable pub given_rows : Bool → List Float → List Float → List ℤ
given_rows pauses [] values = []
given_rows pauses (beat ∷ beats) [] = []
given_rows pauses (beat ∷ beats) (value ∷ values) =
    pick (is_stored pauses value) (row binary32 beat ∷ given_rows pauses beats values) (given_rows pauses beats values)

-- a list's part of the store: its rows in rising order, those of pauses without repeats
unfoldable pub store_part : Bool → List Float → List Float → List ℤ
store_part pauses beats values = pick pauses (tidied row_key (given_rows pauses beats values)) (ordered row_key (given_rows pauses beats values))

-- the rows of warps with their marks, in rising order, those of one row as they were given: every warp has a row
unfoldable pub marked_rows : List Float → List ℕ → List (ℤ × ℕ)
marked_rows beats marks = ordered (λ (e : ℤ × ℕ). row_key e.0) (entries (map (row binary32) beats) marks)

-- the mark of each row of the warps' part
abbrev pub row_marks_of : List Float → List ℕ → List ℕ
row_marks_of beats marks = map second (marked_rows beats marks)

-- ---- the call: the four lists, the marks of the warps, the room for all rows and that for the marks of the warps' rows
module _ (lists : LookupLists) where
  abbrev pub stops_part : List ℤ
  stops_part = store_part true lists.stops.beats lists.stops.values

  abbrev pub delays_part : List ℤ
  delays_part = store_part true lists.delays.beats lists.delays.values

  abbrev pub warps_part : List ℤ
  warps_part = store_part false lists.warps.beats lists.warps.values

  abbrev pub fakes_part : List ℤ
  fakes_part = store_part false lists.fakes.beats lists.fakes.values

  -- the parts, one behind another
  abbrev pub packed : List ℤ
  packed = stops_part ++ delays_part ++ warps_part ++ fakes_part

  -- the lowest number of the four lists
  abbrev pub stored_lists_number : ℕ
  stored_lists_number =
      lower
      (lower
      (list_number (range_of Beat) (range_of Pause) lists.stops.beats lists.stops.values)
      (list_number (range_of Beat) (range_of Pause) lists.delays.beats lists.delays.values))
      (lower
      (list_number (range_of Beat) (range_of Value) lists.warps.beats lists.warps.values)
      (list_number (range_of Beat) (range_of Value) lists.fakes.beats lists.fakes.values))

  -- and of the marks
  abbrev pub stored_number : List ℕ → ℕ
  stored_number marks = lower stored_lists_number (marks_number (length lists.warps.beats) marks)

  -- the one outcome: the number, the length of each part, and both rooms to their last place
  pub record RowsStored (marks : List ℕ) (outcome : Stored) (old new : List ℤ) (marks_old marks_new : List ℕ) : Type 0 where
    pub number : outcome.number ≡ room_number (room_number (stored_number marks) (length packed) (length old)) (length warps_part) (length marks_old)
    pub stops : outcome.stops ≡ length (given outcome.number stops_part)
    pub delays : outcome.delays ≡ length (given outcome.number delays_part)
    pub warps : outcome.warps ≡ length (given outcome.number warps_part)
    pub fakes : outcome.fakes ≡ length (given outcome.number fakes_part)
    pub rows : new ≡ laid (given outcome.number packed) old
    pub marks_are : marks_new ≡ laid (given outcome.number (row_marks_of lists.warps.beats marks)) marks_old
