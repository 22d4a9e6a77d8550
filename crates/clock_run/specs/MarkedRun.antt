-- A run with an end mark beside the cursor: the history of a list of beats that are asked with the mark. Definitions only.
use Rattle.std.specs.Prelude.{ℕ, List, map, length, Float}
use Rattle.limits.specs.Refusals.{lower}
use Rattle.chart.specs.Timing.{Timing}
use Rattle.clock_walk.specs.declared.Mark.{Mark}
use Rattle.clock.specs.Question.{cursor_refusal}
use Rattle.clock.specs.Marked.{marked_timing_number}
use Rattle.clock.specs.History.{marked_of_beat, History}
use Rattle.clock.specs.declared.Cursor.{Cursor}
use Rattle.clock_run.specs.Run.{run_room_number, RunColumns, HistoryLaid}
use Rattle.clock_run.specs.declared.Ran.{Ran}

-- a marked run asks each beat by the marked question that tests the beat alone
abbrev pub marked_run_of : List Float → History
marked_run_of beats = map (λ (beat : Float). (marked_of_beat, beat)) beats

-- the timing, the mark, the room and the cursor are tested once; beats are not tested here
unfoldable pub marked_run_number : Mark → Timing → Float → Float → Cursor → (beats numbers times counts : ℕ) → ℕ
marked_run_number m t offset global c beats numbers times counts =
    lower (marked_timing_number m t offset global) (lower (run_room_number beats numbers times counts) (cursor_refusal t c))

-- the one outcome, as of a run without a mark
abbrev pub MarkedRunLaid : Mark → Timing → Float → Float → Cursor → List Float → Ran → (old new : RunColumns) → Type 0
MarkedRunLaid m t offset global c beats ran old new =
    HistoryLaid (marked_run_number m t offset global c (length beats) (length old.numbers) (length old.times) (length old.counts)) marked_run_of
    t offset global c beats ran old new
