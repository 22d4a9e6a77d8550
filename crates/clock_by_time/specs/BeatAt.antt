-- Which beat is it at a time? Events are passed as long as they are over by then. Definitions only.
use Rattle.std.specs.Prelude.{ℕ, ◌+◌, Bool, true, false, List, eqb, get_or, Float}
use Rattle.std.specs.Float.{nan, binary64}
use Rattle.std.specs.Float.Ieee.{add, sub, div}
use Rattle.ieee.specs.Constants.{plus_zero, sixty}
use Rattle.ieee_mul_add.specs.MulAdd.{mul_add}
use Rattle.picks.specs.Pick.{pick}
use Rattle.limits.specs.Table.{bad_value}
use Rattle.limits.specs.Numbers.{range_of, in_range}
use Rattle.limits.specs.declared.Kind.TheVariants.{Pause}
use Rattle.limits.specs.Refusals.{lower}
use Rattle.rows.specs.Rows.{beat_of}
use Rattle.chart.specs.Timing.{Timing}
use Rattle.clock_tests.specs.TimingNumbers.{timing_number}
use Rattle.clock_walk.specs.Passing.{early_tempo}
use Rattle.clock_walk.specs.ByTime.{walk_by}
use Rattle.clock_walk.specs.declared.ByTime.{ByTime}
use Rattle.clock_walk.specs.declared.Pausing.{Pausing}
use Rattle.clock_walk.specs.declared.Pausing.TheVariants.{InDelay, InFreeze, NoPause}
use Rattle.clock.specs.Question.{filled, fresh_state}
use Rattle.chart.specs.declared.State.{State}
use Rattle.clock_by_time.specs.declared.BeatInfo.{BeatInfo}

-- ---- refusals

-- a time is taken as the seconds of a pause are, finite and at most 2 ^ 50 in size; else 4
unfoldable pub time_number : Float → ℕ
time_number time = pick (in_range (range_of Pause) time) 0 bad_value

-- ---- the beat

-- the walk begins as that of a fresh cursor does, and with the tempo at beat 0
unfoldable pub fresh_by : Timing → (offset global elapsed : Float) → ByTime
fresh_by t offset global elapsed =
    walk_by elapsed (early_tempo (filled t).tempo_beats (filled t).tempo_values (fresh_state offset global)) (filled t) (fresh_state offset global)

-- on from the last event by the tempo in force, warping or not, in a single rounding
unfoldable pub beat_on : (elapsed tempo : Float) → State → Float
beat_on elapsed tempo s = mul_add binary64 (sub binary64 elapsed s.time) (div binary64 tempo sixty) (beat_of binary64 s.row)

-- in a running delay or stop the entry's own beat, which need not be that of its row
abbrev pub beat_in : (elapsed : Float) → (stop_beats delay_beats : List Float) → ByTime → Pausing → Float
beat_in elapsed stop_beats delay_beats w InDelay = get_or delay_beats w.state.delays nan
beat_in elapsed stop_beats delay_beats w InFreeze = get_or stop_beats w.state.stops nan
beat_in elapsed stop_beats delay_beats w NoPause = beat_on elapsed w.tempo w.state

abbrev pub is_freeze : Pausing → Bool
is_freeze InDelay = false
is_freeze InFreeze = true
is_freeze NoPause = false

abbrev pub is_delay : Pausing → Bool
is_delay InDelay = true
is_delay InFreeze = false
is_delay NoPause = false

-- the beat, the marks, and the events passed and one: a pause that still runs is not among them
abbrev pub info_of : (elapsed : Float) → (stop_beats delay_beats : List Float) → ByTime → BeatInfo
info_of elapsed stop_beats delay_beats w = record {
  number = 0;
  beat = beat_in elapsed stop_beats delay_beats w w.pause;
  is_in_freeze = is_freeze w.pause;
  is_in_delay = is_delay w.pause;
  count = w.passed + 1;
}

-- elapsed is the time with the global offset added
unfoldable pub info_at : Timing → (offset global time : Float) → BeatInfo
info_at t offset global time =
    let elapsed = add binary64 time global in
    info_of elapsed t.stop_beats t.delay_beats (fresh_by t offset global elapsed)

-- ---- the answers: one that tests the time alone, and one that tests all

-- a refusal has no beat, no marks and no count
abbrev pub info_refused : ℕ → BeatInfo
info_refused number = record { number = number; beat = plus_zero; is_in_freeze = false; is_in_delay = false; count = 0 }

abbrev pub info_by_number : ℕ → Timing → (offset global time : Float) → BeatInfo
info_by_number number t offset global time = pick (eqb number 0) (info_at t offset global time) (info_refused number)

unfoldable pub beat_info_checked : Timing → (offset global time : Float) → BeatInfo
beat_info_checked t offset global time = info_by_number (time_number time) t offset global time

unfoldable pub beat_info_number : Timing → (offset global time : Float) → ℕ
beat_info_number t offset global time = lower (timing_number t offset global) (time_number time)

unfoldable pub beat_info : Timing → (offset global time : Float) → BeatInfo
beat_info t offset global time = info_by_number (beat_info_number t offset global time) t offset global time
