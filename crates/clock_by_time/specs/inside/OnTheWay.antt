-- A run between two of its times: what is reached, and that every later time is on from there. Definitions only.
use Rattle.std.specs.Prelude.{◌+◌, ◌≤◌, true, ◌≡◌, eqb, Float}
use Rattle.std.specs.Float.{binary64}
use Rattle.std.specs.Float.Ieee.{add, le}
use Rattle.picks.specs.Pick.{pick}
use Rattle.chart.specs.Timing.{Timing}
use Rattle.chart.specs.declared.State.{State}
use Rattle.clock_walk.specs.Course.{events_left, pass_while}
use Rattle.clock_walk.specs.ByTime.{is_ahead_over, passed_by, walk_by}
use Rattle.clock_by_time.specs.BeatAt.{time_number, info_of, info_refused}
use Rattle.clock_by_time.specs.declared.BeatInfo.{BeatInfo}
use Rattle.clock_by_time.specs.declared.Reached.{Reached}

-- what is answered to a time, the timing, its start and the tempo there being at hand
unfoldable pub info_from : (early : Float) → Timing → State → (global time : Float) → BeatInfo
info_from early t start global time =
    let elapsed = add binary64 time global in
    pick (eqb (time_number time) 0) (info_of elapsed t.stop_beats t.delay_beats (walk_by elapsed early t start)) (info_refused (time_number time))

-- a walk to no earlier time comes from here to where it comes from the start
pub record OnTheWay (early : Float) (t : Timing) (start : State) (at : Reached) : Type 0 where
  pub same : (later : Float) → le at.elapsed later ≡ true → pass_while (is_ahead_over later early t) early t at.state at.passed ≡ passed_by later early t start
  pub few : at.passed + events_left t at.state ≤ events_left t start
