-- The time of a beat, asked back. Definitions only.
--
-- Any timing, state and row. Where time does not fall on the way to the row, neither up to an event nor by its pause, the walk to the row's time passes every
-- event that goes before the row's beat, and goes on from where the walk to the row stopped: so none of these events lies behind the beat that is given back.
-- A negative pause or tempo may let time fall. That positive tempos, pauses that are not negative and rows from 0 on keep it from falling is not proved here.
use Rattle.std.specs.Prelude.{ℕ, zero, suc, Bool, false, ◌≡◌, ℤ, Float}
use Rattle.std.specs.Float.Ieee.{le}
use Rattle.picks.specs.Pick.{pick}
use Rattle.chart.specs.Timing.{Timing}
use Rattle.chart.specs.declared.State.{State}
use Rattle.clock_walk.specs.Events.{row_ahead, ahead}
use Rattle.clock_walk.specs.Passing.{time_at}
use Rattle.clock_walk.specs.Course.{onward, events_left, pass_while}
use Rattle.clock_walk.specs.Walk.{is_due, walk_on}
use Rattle.clock_walk.specs.ByTime.{is_ahead_over, passed_by}
use Rattle.clock_walk.specs.declared.Walked.{Walked}

-- up to what is ahead, and by it
unfoldable pub holds_past : (early : Float) → Timing → State → Bool
holds_past early t s =
    let comes = time_at early t.tempo_values s (row_ahead (ahead t s)) in
    pick (le s.time comes) (le comes (onward early t s).time) false

-- at each event that is due by a row, so many at most, and on to the row
unfoldable pub holds_within : ℕ → (early : Float) → Timing → ℤ → State → Bool
holds_within zero early t r s = le s.time (time_at early t.tempo_values s r)
holds_within (suc most) early t r s =
    pick (is_due t r s) (pick (holds_past early t s) (holds_within most early t r (onward early t s)) false) (le s.time (time_at early t.tempo_values s r))

-- time does not fall
abbrev pub time_holds : (early : Float) → Timing → ℤ → State → Bool
time_holds early t r s = holds_within (events_left t s) early t r s

-- the walk to the row, and the one to the time that it comes to
module _ (early : Float) (t : Timing) (r : ℤ) (s : State) where
  abbrev pub to_the_row : Walked
  to_the_row = walk_on early t r s 0

  abbrev pub AskedBack : Type 0
  AskedBack = passed_by to_the_row.time early t s ≡ pass_while (is_ahead_over to_the_row.time early t) early t to_the_row.state to_the_row.passed
