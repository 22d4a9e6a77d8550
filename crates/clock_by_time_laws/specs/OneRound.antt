-- What is asked of the beat of a time. Definitions only.
--
-- Any timing, taken or not, and any time. The count is at most B + S + D + 2 W + 1, the entries of the lists with a warp counted twice, and one; an empty tempo
-- list has the one tempo of 60. No beat is in a stop and in a delay at once. Over a timing that is taken, the call that tests the time alone answers what the
-- call that tests all does.
use Rattle.std.specs.Prelude.{◌+◌, ◌≤◌, false, ◌&&◌, ◌≡◌, Float}
use Rattle.chart.specs.Timing.{Timing}
use Rattle.clock_tests.specs.TimingNumbers.{timing_number}
use Rattle.clock_by_time.specs.BeatAt.{beat_info_checked, beat_info}
use Rattle.clock_histories.specs.Costs.{events}

pub record OneRound (t : Timing) (offset global time : Float) : Type 0 where
  pub count : (beat_info t offset global time).count ≤ events t + 1
  pub checked_count : (beat_info_checked t offset global time).count ≤ events t + 1
  pub marks : ((beat_info_checked t offset global time).is_in_freeze && (beat_info_checked t offset global time).is_in_delay) ≡ false
  pub checked_is_tested : timing_number t offset global ≡ 0 → beat_info_checked t offset global time ≡ beat_info t offset global time
