-- What is said of laying out and of a question leaves one outcome: the answer and the three columns. Assumes nothing.
use Rattle.std.proofs.Common.{◌≡◌}
use lib.Ieee.{Float}
use Rattle.columns.specs.declared.Outcome.{Outcome}
use Rattle.chart.specs.Timing.{Timing}
use Rattle.clock_bench.specs.EventRoom.{EventRoom}
use Rattle.clock_bench.specs.BenchQuestion.{EventsLaid, BenchAnswered}
use Rattle.clock_bench.specs.declared.BenchAnswer.{BenchAnswer}

pub one-laying : {t : Timing} {a b : Outcome} {old new_a new_b : EventRoom} → EventsLaid t a old new_a → EventsLaid t b old new_b → (a ≡ b) × (new_a ≡ new_b)
one-laying {a = a} {b = b} x y =
    let same : ◌≡◌ {A = Outcome} (record { number = a.number; count = a.count }) (record { number = b.number; count = b.count }) = cc in
    (same, cc)

pub one_answer : {t : Timing} {offset global beat : Float} {a b : BenchAnswer} {old new_a new_b : EventRoom}
    → BenchAnswered t offset global beat a old new_a → BenchAnswered t offset global beat b old new_b → (a ≡ b) × (new_a ≡ new_b)
one_answer x y = (cc, cc)
