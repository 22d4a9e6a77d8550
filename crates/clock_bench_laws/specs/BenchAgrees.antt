-- What is asked of the second clock, held against the first. Definitions only.
--
-- One timing, its offsets and a beat, and a room that holds the list. Where the bench's question is taken, so is the clock's of a fresh cursor; the times are
-- the same, bit for bit, and so are the counts. What the clock takes, the bench takes where the room is large enough. No more is laid than the room must hold.
use Rattle.std.specs.Prelude.{◌≤◌, ◌≡◌, length, Float}
use Rattle.chart.specs.Timing.{Timing}
use Rattle.clock.specs.Question.{fresh_cursor, question}
use Rattle.clock.specs.declared.Answer.{Answer}
use Rattle.clock_bench.specs.EventList.{with_a_tempo, most_events, event_list}
use Rattle.clock_bench.specs.EventRoom.{EventRoom, event_room_number}
use Rattle.clock_bench.specs.BenchQuestion.{bench_question}
use Rattle.clock_bench.specs.declared.BenchAnswer.{BenchAnswer}

module _ (t : Timing) (offset global beat : Float) where
  abbrev pub by_the_clock : Answer
  by_the_clock = question t (fresh_cursor offset global) offset global beat

  module _ (room : EventRoom) where
    abbrev pub by_the_list : BenchAnswer
    by_the_list = bench_question t offset global beat room

    pub record BenchAgrees : Type 0 where
      pub numbers : by_the_list.number ≡ 0 → by_the_clock.number ≡ 0
      pub times : by_the_list.number ≡ 0 → by_the_list.time ≡ by_the_clock.time
      pub counts : by_the_list.number ≡ 0 → by_the_list.count ≡ by_the_clock.count
      pub taken : by_the_clock.number ≡ 0 → event_room_number t room ≡ 0 → by_the_list.number ≡ 0
      pub fits : length (event_list t) ≤ most_events (with_a_tempo t)
