-- What a run looks ahead for: up to the next event a beat's time follows from the state, and no walk is needed. Definitions only.
use Rattle.std.specs.Prelude.{◌-◌, Bool, true, false, List, length, ℤ, pos, ◌-ℤ◌, ◌==◌, int_lt, nat_lt, slice_index_or, Float}
use Rattle.std.specs.Float.{nan, binary64}
use Rattle.std.specs.Float.Ieee.{add, div}
use Rattle.ieee.specs.Constants.{plus_zero, sixty}
use Rattle.picks.specs.Pick.{pick}
use Rattle.rows.specs.Rows.{beat_of}
use Rattle.chart.specs.Timing.{Timing}
use Rattle.clock_walk.specs.Events.{farthest}
use Rattle.clock_walk.specs.Quiet.{row_at, end_row}
use Rattle.clock_walk.specs.Soon.{tempo_passed, row_after}
use Rattle.chart.specs.declared.State.{State}
use Rattle.clock_tests.specs.TimingNumbers.{beat_number}
use Rattle.clock.specs.declared.Cursor.{Cursor}
use Rattle.clock_walk.specs.declared.Soon.{Soon}
use Rattle.clock_run.specs.declared.Outlook.{Outlook}

unfoldable pub lesser_row : ℤ → ℤ → ℤ
lesser_row a b = pick (int_lt a b) a b

-- the row of the next event that is no tempo
unfoldable pub rest_until : (stop_beats delay_beats warp_beats : List Float) → State → ℤ
rest_until stop_beats delay_beats warp_beats s =
    lesser_row farthest
    (lesser_row (end_row s.warping s.end) (lesser_row (row_at delay_beats s.delays) (lesser_row (row_at stop_beats s.stops) (row_at warp_beats s.warps))))

abbrev pub blind : Outlook
blind = record { known = false; row = pos 0; rest = pos 0; rate = plus_zero }

-- what is ahead of a state, with a row before which only tempos are; before any tempo is passed it looks for nothing
unfoldable pub look_on : (tempo_beats tempo_values : List Float) → State → ℤ → Outlook
look_on tempo_beats tempo_values s rest =
    pick (s.tempos == 0) blind
    (pick (nat_lt (s.tempos - 1) (length tempo_values))
    (record {
      known = true;
      row = lesser_row (row_at tempo_beats s.tempos) rest;
      rest = rest;
      rate = div binary64 (slice_index_or tempo_values (s.tempos - 1) nan) sixty;
    })
    blind)

unfoldable pub look_ahead : Timing → State → Outlook
look_ahead t s =
    pick (length t.tempo_beats == 0) blind (look_on t.tempo_beats t.tempo_values s (rest_until t.stop_beats t.delay_beats t.warp_beats s))

-- a beat that is taken, beyond a mark's row
unfoldable pub is_beyond : ℤ → Float → ℤ → Bool
is_beyond mark beat asked = pick (int_lt mark asked) (beat_number beat == 0) false

-- a beat that is taken, at or behind the one asked last, and before a row that is known
unfoldable pub is_before : Bool → ℤ → ℤ → Float → ℤ → Bool
is_before known until last beat asked = pick (beat_number beat == 0) (pick known (pick (int_lt asked last) false (int_lt asked until)) false) false

unfoldable pub quiet_time : State → Float → ℤ → Float
quiet_time s rate asked = add binary64 s.time (pick s.warping plus_zero (div binary64 (beat_of binary64 (asked -ℤ s.row)) rate))

-- The next tempo passed, where there is one with a value and a beat is before all that follows it, by the rows that are kept; else nothing, and it is not the whole
-- walk.
unfoldable pub soon_before : (tempo_beats tempo_values : List Float) → Outlook → Cursor → Float → ℤ → Soon
soon_before tempo_beats tempo_values outlook c beat asked =
    pick (is_before outlook.known (lesser_row (row_after tempo_beats c.state.tempos) outlook.rest) c.asked beat asked)
    (pick (nat_lt c.state.tempos (length tempo_beats))
    (pick (nat_lt c.state.tempos (length tempo_values))
    (record { state = tempo_passed tempo_beats tempo_values c.state outlook.row; passed = 1; whole = true })
    (record { state = c.state; passed = 0; whole = false }))
    (record { state = c.state; passed = 0; whole = false }))
    (record { state = c.state; passed = 0; whole = false })
