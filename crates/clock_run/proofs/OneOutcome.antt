-- What is said of a run, without a mark or with one, leaves one outcome: its number, its cursor and the three columns. Assumes nothing.
use Rattle.std.proofs.Common.{◌≡◌, ℕ, List}
use lib.Ieee.{Float}
use Rattle.chart.specs.Timing.{Timing}
use Rattle.clock.specs.History.{History}
use Rattle.clock.specs.declared.Cursor.{Cursor}
use Rattle.clock_run.specs.Run.{RunColumns, HistoryLaid}
use Rattle.clock_run.specs.declared.Ran.{Ran}

pub one_outcome : {tests : ℕ} {asked : List Float → History} {t : Timing} {offset global : Float} {c : Cursor} {beats : List Float} {a b : Ran} {old new_a new_b : RunColumns}
    → HistoryLaid tests asked t offset global c beats a old new_a → HistoryLaid tests asked t offset global c beats b old new_b → (a ≡ b) × (new_a ≡ new_b)
one_outcome {a = a} {b = b} {new_a = new_a} {new_b = new_b} x y =
    let same : ◌≡◌ {A = Ran} (record { number = a.number; cursor = a.cursor }) (record { number = b.number; cursor = b.cursor }) = cc in
    let laid : ◌≡◌ {A = RunColumns} (record { numbers = new_a.numbers; times = new_a.times; counts = new_a.counts }) (record { numbers = new_b.numbers; times = new_b.times; counts = new_b.counts }) = cc in
    (same, laid)
