-- The course of a timing: its events in the one order in which every walk passes them. Definitions only.
use Rattle.std.specs.Prelude.{ℕ, zero, suc, ◌+◌, ◌-◌, ◌*◌, Bool, true, false, List, [], ◌∷◌, length, ℤ, Float, Option, Some, None}
use Rattle.picks.specs.Pick.{pick}
use Rattle.chart.specs.Timing.{Timing}
use Rattle.clock_walk.specs.Events.{ahead, goes_before}
use Rattle.clock_walk.specs.Passing.{passing}
use Rattle.chart.specs.declared.State.{State}
use Rattle.clock_walk.specs.declared.Next.{Next}

abbrev pub is_found : Option Next → Bool
is_found (Some n) = true
is_found None = false

-- something is ahead
abbrev pub is_ahead : Timing → State → Bool
is_ahead t s = is_found (ahead t s)

-- the state after what was found; the state as it is where nothing was
abbrev pub past_found : Float → Timing → State → Option Next → State
past_found early t s (Some n) = passing early t s n
past_found early t s None = s

-- the state after what is ahead
abbrev pub onward : Float → Timing → State → State
onward early t s = past_found early t s (ahead t s)

-- ---- how many events there are to pass at most: a warp has two, its start and its end

abbrev pub one : Bool → ℕ
one true = 1
one false = 0

abbrev pub events_left : Timing → State → ℕ
events_left t s =
    (length t.tempo_beats - s.tempos)
    + (length t.stop_beats - s.stops)
    + (length t.delay_beats - s.delays)
    + 2 * (length t.warp_beats - s.warps)
    + one s.warping

-- ---- the form of every walk: events are passed as long as a test of the state says so

-- the state after the last event passed, and how many were passed
pub record Stopped : Type 0 where
  pub state : State
  pub passed : ℕ

-- so many at most
unfoldable pub pass_within : ℕ → (State → Bool) → Float → Timing → State → ℕ → Stopped
pass_within zero more early t s n = record { state = s; passed = n }
pass_within (suc most) more early t s n = pick (more s) (pass_within most more early t (onward early t s) (n + 1)) (record { state = s; passed = n })

-- n being passed before
unfoldable pub pass_while : (State → Bool) → Float → Timing → State → ℕ → Stopped
pass_while more early t s n = pass_within (events_left t s) more early t s n

-- ---- the course

-- the state after so many events
unfoldable pub state_after : ℕ → Float → Timing → State → State
state_after zero early t s = s
state_after (suc n) early t s = state_after n early t (onward early t s)

abbrev pub found_before : Option Next → List Next → List Next
found_before (Some n) list = n ∷ list
found_before None list = []

-- the events from a state on, so many at most
unfoldable pub events_within : ℕ → Float → Timing → State → List Next
events_within zero early t s = []
events_within (suc n) early t s = found_before (ahead t s) (events_within n early t (onward early t s))

-- all of them
unfoldable pub course : Float → Timing → State → List Next
course early t s = events_within (events_left t s) early t s

-- how many events at the front of a list go before an asked beat: what lies behind the first that does not, on however low a row, is not reached
unfoldable pub leading_before : ℤ → List Next → ℕ
leading_before asked [] = 0
leading_before asked (n ∷ list) = pick (goes_before asked n) (suc (leading_before asked list)) 0
