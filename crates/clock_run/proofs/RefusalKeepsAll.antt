-- A run that is refused, without a mark or with one, leaves the cursor that was lent, and the three columns as they were. Assumes nothing.
use Rattle.std.proofs.Common.{◌≡◌, ℕ, List, [], refl, ne_eqb}
use lib.Ieee.{Float}
use Rattle.order.specs.Order.{laid}
use Rattle.columns.specs.Laying.{given}
use Rattle.chart.specs.Timing.{Timing}
use Rattle.clock.specs.History.{History, last_cursor}
use Rattle.clock_walk.specs.declared.Mark.{Mark}
use Rattle.clock.specs.declared.Cursor.{Cursor}
use Rattle.clock_run.specs.Run.{RunColumns, HistoryLaid, RunLaid}
use Rattle.clock_run.specs.MarkedRun.{MarkedRunLaid}
use Rattle.clock_run.specs.declared.Ran.{Ran}

module _ {t : Timing} {offset global : Float} {c : Cursor} {beats : List Float} {ran : Ran} {old new : RunColumns} where
  -- no beats make no history
  kept : {tests : ℕ} {asked : List Float → History} → asked [] ≡ [] → HistoryLaid tests asked t offset global c beats ran old new → (ran.number ≡ 0 → ⊥)
      → (ran.cursor ≡ c) × (new.numbers ≡ old.numbers) × (new.times ≡ old.times) × (new.counts ≡ old.counts)
  unfolding given laid last_cursor
  kept none run h =
      let no = ne_eqb ran.number 0 h in
      (rw (no, none) at run.cursor, rw no at run.numbers_are, rw no at run.times_are, rw no at run.counts_are)

  pub run_refusal_keeps : RunLaid t offset global c beats ran old new → (ran.number ≡ 0 → ⊥)
      → (ran.cursor ≡ c) × (new.numbers ≡ old.numbers) × (new.times ≡ old.times) × (new.counts ≡ old.counts)
  run_refusal_keeps run h = kept refl run h

  pub marked_run_refusal_keeps : (m : Mark) → MarkedRunLaid m t offset global c beats ran old new → (ran.number ≡ 0 → ⊥)
      → (ran.cursor ≡ c) × (new.numbers ≡ old.numbers) × (new.times ≡ old.times) × (new.counts ≡ old.counts)
  marked_run_refusal_keeps m run h = kept refl run h
