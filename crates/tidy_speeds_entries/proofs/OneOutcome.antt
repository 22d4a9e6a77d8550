-- What is said of a call's outcome whose result is a list of speeds leaves one outcome: number, count and the four rooms. Assumes nothing.
use Prim.Native.Nat.{ℕ}
use mathlib.Core.Path.{◌≡◌}
use mathlib.Core.List.{List}
use lib.Ieee.{Float}
use Rattle.chart.specs.ChartColumns.{SpeedColumns}
use Rattle.columns.specs.declared.Outcome.{Outcome}
use Rattle.tidy_speeds_entries.specs.Speed.{SpeedEntry}
use Rattle.tidy_speeds_entries.specs.LaidSpeeds.{LaidSpeeds, LaysSpeeds}

pub one_outcome : {tests : ℕ} {result : List SpeedEntry} {a b : Outcome}
    {beats_old beats_a beats_b ratios_old ratios_a ratios_b delays_old delays_a delays_b : List Float} {units_old units_a units_b : List ℕ}
    → LaidSpeeds tests result a beats_old beats_a ratios_old ratios_a delays_old delays_a units_old units_a
    → LaidSpeeds tests result b beats_old beats_b ratios_old ratios_b delays_old delays_b units_old units_b
    → (a ≡ b) × (beats_a ≡ beats_b) × (ratios_a ≡ ratios_b) × (delays_a ≡ delays_b) × (units_a ≡ units_b)
one_outcome {a = a} {b = b} x y =
    let same : ◌≡◌ {A = Outcome} (record { number = a.number; count = a.count }) (record { number = b.number; count = b.count }) = cc in
    (same, cc, cc, cc, cc)

-- the same of rooms as columns
pub one-columns : {tests : ℕ} {result : List SpeedEntry} {a b : Outcome} {old new_a new_b : SpeedColumns}
    → LaysSpeeds tests result a old new_a → LaysSpeeds tests result b old new_b → (a ≡ b) × (new_a ≡ new_b)
one-columns x y =
    let one = one_outcome x y in
    (one.0, λ i. record { beats = one.1 i; ratios = one.2 i; delays = one.3 i; units = one.4 i })
