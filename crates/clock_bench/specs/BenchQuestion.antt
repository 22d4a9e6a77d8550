-- The bench's question: at what time is this beat, by the list of events? Definitions only.
use Rattle.std.specs.Prelude.{◌≡◌, ℕ, ◌+◌, List, [], ◌∷◌, length, ℤ, ◌==◌, Float}
use Rattle.std.specs.Float.{binary64}
use Rattle.std.specs.Float.Ieee.{sub, neg}
use Rattle.ieee.specs.Constants.{plus_zero, sixty}
use Rattle.picks.specs.Pick.{pick}
use Rattle.limits.specs.Refusals.{lower}
use Rattle.rows.specs.Rows.{row}
use Rattle.columns.specs.Laying.{given}
use Rattle.columns.specs.declared.Outcome.{Outcome}
use Rattle.chart.specs.Timing.{Timing}
use Rattle.clock_tests.specs.TimingNumbers.{timing_number, beat_number}
use Rattle.clock_bench.specs.EventList.{event_list}
use Rattle.clock_bench.specs.EventRoom.{EventRoom, event_room_number, room_with}
use Rattle.clock_bench.specs.RunningDown.{time_on, run_down, set_off}
use Rattle.clock_bench.specs.declared.Runner.{Runner}
use Rattle.clock_bench.specs.declared.BenchAnswer.{BenchAnswer}

-- ---- laying out by itself

unfoldable pub laying_number : Timing → EventRoom → ℕ
laying_number t room = lower (timing_number t plus_zero plus_zero) (event_room_number t room)

pub record EventsLaid (t : Timing) (outcome : Outcome) (room_old room_new : EventRoom) : Type 0 where
  pub number : outcome.number ≡ laying_number t room_old
  pub count : outcome.count ≡ length (given outcome.number (event_list t))
  pub room_is : room_new ≡ room_with (given outcome.number (event_list t)) room_old

-- ---- the question

abbrev pub tempo_at_the_start : List Float → Float
tempo_at_the_start [] = sixty
tempo_at_the_start (v ∷ values) = v

-- the runner at an asked row; it sets off on row 0, less both offsets, with the first tempo
unfoldable pub runner_at : Timing → Float → Float → ℤ → Runner
runner_at t offset global asked = run_down asked (set_off (sub binary64 (neg offset) global) (tempo_at_the_start t.tempo_values)) (event_list t)

unfoldable pub bench_number : Timing → Float → Float → Float → EventRoom → ℕ
bench_number t offset global beat room = lower (timing_number t offset global) (lower (beat_number beat) (event_room_number t room))

-- the time of the row with the global offset taken off again, the events passed and one, and how many were laid
abbrev pub bench_taken : Timing → Float → Float → ℤ → BenchAnswer
bench_taken t offset global asked = record {
  number = 0;
  time = sub binary64 (time_on (runner_at t offset global asked) asked) global;
  count = (runner_at t offset global asked).passed + 1;
  laid = length (event_list t);
}

abbrev pub bench_refused : ℕ → BenchAnswer
bench_refused number = record { number = number; time = plus_zero; count = 0; laid = 0 }

unfoldable pub bench_question : Timing → Float → Float → Float → EventRoom → BenchAnswer
bench_question t offset global beat room =
    pick (bench_number t offset global beat room == 0) (bench_taken t offset global (row binary64 beat)) (bench_refused (bench_number t offset global beat room))

pub record BenchAnswered (t : Timing) (offset global beat : Float) (answer : BenchAnswer) (room_old room_new : EventRoom) : Type 0 where
  pub answer_is : answer ≡ bench_question t offset global beat room_old
  pub room_is : room_new ≡ room_with (given answer.number (event_list t)) room_old
