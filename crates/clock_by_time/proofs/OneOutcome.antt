-- What is said of a run over many times leaves one outcome: the number and the five columns. Assumes nothing.
use Prim.Native.Nat.{ℕ}
use mathlib.Core.Path.{◌≡◌}
use mathlib.Core.List.{List}
use lib.Ieee.{Float}
use Rattle.chart.specs.Timing.{Timing}
use Rattle.clock_by_time.specs.ManyTimes.{InfoColumns, BeatInfosLaid}

pub one_outcome : {t : Timing} {offset global : Float} {times : List Float} {a b : ℕ} {old new_a new_b : InfoColumns}
    → BeatInfosLaid t offset global times a old new_a → BeatInfosLaid t offset global times b old new_b → (a ≡ b) × (new_a ≡ new_b)
one_outcome {new_a = new_a} {new_b = new_b} x y =
    let same : ◌≡◌ {A = InfoColumns} (record { numbers = new_a.numbers; beats = new_a.beats; freezes = new_a.freezes; delays = new_a.delays; counts = new_a.counts })
    (record { numbers = new_b.numbers; beats = new_b.beats; freezes = new_b.freezes; delays = new_b.delays; counts = new_b.counts }) = cc in
    (cc, same)
