-- What is said of a list of speeds laid over four rooms leaves one outcome: number, count and the rooms. Assumes nothing.
use Prim.Native.Nat.{ℕ}
use mathlib.Core.Path.{◌≡◌}
use mathlib.Core.List.{List}
use Rattle.columns.specs.declared.Outcome.{Outcome}
use Rattle.chart.specs.ChartColumns.{SpeedColumns, speed_columns}
use Rattle.tidy_speeds_entries.specs.Speed.{SpeedEntry}
use Rattle.tidy_speeds_entries.proofs.OneOutcome as columns
use Rattle.assembly_speeds.specs.AssembledSpeeds.{SpeedsOver}

abbrev spelled : SpeedColumns → SpeedColumns
spelled c = speed_columns c.beats c.ratios c.delays c.units

pub one_outcome : {tests : ℕ} {result : List SpeedEntry} {a b : Outcome} {old new_a new_b : SpeedColumns}
    → SpeedsOver tests result a old new_a → SpeedsOver tests result b old new_b → (a ≡ b) × (new_a ≡ new_b)
one_outcome {new_a = new_a} {new_b = new_b} x y =
    let same = columns.one_outcome x y in
    let rooms : spelled new_a ≡ spelled new_b = cc in
    (same.0, rooms)
