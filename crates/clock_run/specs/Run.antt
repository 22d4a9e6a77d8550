-- A run: the history of a list of beats. Definitions only.
use Rattle.std.specs.Prelude.{◌≡◌, ℕ, min, List, map, length, nat_le, Float}
use Rattle.limits.specs.Table.{no_room}
use Rattle.picks.specs.Pick.{pick}
use Rattle.limits.specs.Refusals.{lower}
use Rattle.columns.specs.Laying.{given, column_laid}
use Rattle.chart.specs.Timing.{Timing}
use Rattle.clock_tests.specs.TimingNumbers.{timing_number}
use Rattle.clock.specs.Question.{cursor_refusal}
use Rattle.clock.specs.History.{of_beat, History, answers, last_cursor, number_of, time_of, count_of}
use Rattle.clock.specs.declared.Cursor.{Cursor}
use Rattle.clock_run.specs.declared.Ran.{Ran}

-- a run asks each beat by the question that tests the beat alone
abbrev pub run_of : List Float → History
run_of beats = map (λ (beat : Float). (of_beat, beat)) beats

-- ---- the number of the run itself

-- 7 where the beats are more than the shortest of the three columns has room for
unfoldable pub run_room_number : (beats numbers times counts : ℕ) → ℕ
run_room_number beats numbers times counts = pick (nat_le beats (min numbers (min times counts))) 0 no_room

-- the timing, the room and the cursor are tested once; beats are not tested here
unfoldable pub run_number : Timing → Float → Float → Cursor → (beats numbers times counts : ℕ) → ℕ
run_number t offset global c beats numbers times counts =
    lower (timing_number t offset global) (lower (run_room_number beats numbers times counts) (cursor_refusal t c))

-- for a timing that was tested: the room and the cursor alone
unfoldable pub checked_run_number : Timing → Cursor → (beats numbers times counts : ℕ) → ℕ
checked_run_number t c beats numbers times counts = lower (run_room_number beats numbers times counts) (cursor_refusal t c)

-- ---- the one outcome: the number, the cursor, and the three columns to their last place

-- the columns of a run: of each beat its number, its time and its count
pub record RunColumns : Type 0 where
  pub numbers : List ℕ
  pub times : List Float
  pub counts : List ℕ

abbrev pub run_columns : (numbers : List ℕ) (times : List Float) (counts : List ℕ) → RunColumns
run_columns numbers times counts = record { numbers = numbers; times = times; counts = counts }

module _ (tests : ℕ) (asked : List Float → History) (t : Timing) (offset global : Float) (c : Cursor) (beats : List Float) where
  -- of beats that make a history, by the number that its tests come to
  pub record HistoryLaid (ran : Ran) (old new : RunColumns) : Type 0 where
    pub number : ran.number ≡ tests
    pub cursor : ran.cursor ≡ last_cursor t offset global c (asked (given ran.number beats))
    pub numbers_are : new.numbers ≡ column_laid number_of ran.number (answers t offset global c (asked beats)) old.numbers
    pub times_are : new.times ≡ column_laid time_of ran.number (answers t offset global c (asked beats)) old.times
    pub counts_are : new.counts ≡ column_laid count_of ran.number (answers t offset global c (asked beats)) old.counts

abbrev pub RunLaid : Timing → Float → Float → Cursor → List Float → Ran → (old new : RunColumns) → Type 0
RunLaid t offset global c beats ran old new =
    HistoryLaid (run_number t offset global c (length beats) (length old.numbers) (length old.times) (length old.counts)) run_of
    t offset global c beats ran old new

abbrev pub CheckedRunLaid : Timing → Float → Float → Cursor → List Float → Ran → (old new : RunColumns) → Type 0
CheckedRunLaid t offset global c beats ran old new =
    HistoryLaid (checked_run_number t c (length beats) (length old.numbers) (length old.times) (length old.counts)) run_of
    t offset global c beats ran old new
