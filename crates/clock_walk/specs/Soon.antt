-- A walk that passes nothing, or one tempo, where nothing else is due by its row. Definitions only.
use Rattle.std.specs.Prelude.{ℕ, ◌+◌, true, false, List, length, ℤ, int_lt, nat_lt, Float}
use Rattle.ieee.specs.Constants.{plus_zero}
use Rattle.picks.specs.Pick.{pick}
use Rattle.clock_walk.specs.Events.{farthest}
use Rattle.clock_walk.specs.Passing.{time_at, after_tempo}
use Rattle.clock_walk.specs.Quiet.{row_at, is_later, is_next_later}
use Rattle.chart.specs.declared.State.{State}
use Rattle.clock_walk.specs.declared.Soon.{Soon}
use Rattle.clock_walk.specs.declared.Walked.{Walked}

-- the time of a row where a tempo was passed: the tempo that a walk begins with plays no part any more
abbrev pub quiet_at : List Float → State → ℤ → Float
quiet_at tempo_values s at = time_at plus_zero tempo_values s at

-- the next tempo passed on a row, if there is one
unfoldable pub tempo_passed : (tempo_beats tempo_values : List Float) → State → ℤ → State
tempo_passed tempo_beats tempo_values s at = pick (nat_lt s.tempos (length tempo_beats)) (after_tempo s at (quiet_at tempo_values s at)) s

-- the row of the entry after the one at a place
unfoldable pub row_after : List Float → ℕ → ℤ
row_after beats place = pick (nat_lt place (length beats)) (row_at beats (place + 1)) farthest

-- Before the next tempo, by its beat or by its row, the state as it is; before the one after that the state past one tempo; further on nothing is passed, and
-- it is not the whole walk.
unfoldable pub soon_of : (tempo_beats tempo_values : List Float) → State → ℤ → Soon
soon_of tempo_beats tempo_values s asked =
    pick (is_later tempo_beats s.tempos asked)
    (record { state = s; passed = 0; whole = true })
    (pick (int_lt asked (row_at tempo_beats s.tempos))
    (record { state = s; passed = 0; whole = true })
    (pick (is_next_later tempo_beats s.tempos asked)
    (record { state = tempo_passed tempo_beats tempo_values s (row_at tempo_beats s.tempos); passed = 1; whole = true })
    (record { state = s; passed = 0; whole = false })))

-- what such a walk comes to at the row
abbrev pub walked_soon : List Float → ℤ → Soon → Walked
walked_soon tempo_values asked soon = record { state = soon.state; passed = soon.passed; time = quiet_at tempo_values soon.state asked }
