-- The end mark of a timing: the state of the walk after all events that can be reached, and the greatest row among those events. Definitions only.
use Rattle.std.specs.Prelude.{List, [], ◌∷◌, length, ℤ, int_lt}
use Rattle.picks.specs.Pick.{pick}
use Rattle.chart.specs.Timing.{Timing}
use Rattle.clock_walk.specs.Passing.{early_tempo}
use Rattle.clock_walk.specs.Course.{state_after, course}
use Rattle.chart.specs.declared.State.{State}
use Rattle.clock_walk.specs.declared.Next.{Next}
use Rattle.clock_walk.specs.declared.Mark.{Mark}

unfoldable pub greater_row : ℤ → ℤ → ℤ
greater_row one other = pick (int_lt one other) other one

-- of a first row and the rows of events
unfoldable pub greatest_row : ℤ → List Next → ℤ
greatest_row first [] = first
greatest_row first (n ∷ list) = greatest_row (greater_row first n.row) list

-- Rows may fall on the way, where a warp of negative length ends before it starts: so it is the greatest row and not the last. A fresh state is on row 0, where
-- the first tempo is an event.
unfoldable pub end_mark : Timing → State → Mark
end_mark t s =
    let early = early_tempo t.tempo_beats t.tempo_values s in
    record {
      state = state_after (length (course early t s)) early t s;
      row = greatest_row s.row (course early t s);
    }
