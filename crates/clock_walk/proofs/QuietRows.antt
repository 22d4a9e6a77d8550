-- By a row before every next entry and before the warp's end nothing is due, and a walk to it passes nothing. Assumes nothing.
use Rattle.clock_walk.specs.declared.Next.{Next}
use Rattle.std.proofs.Common.{◌≡◌, ℕ, ◌<◌, true, false, List, length, get_or, ℤ, lt-ltb, Option}
use lib.Signed.{lt_z}
use lib.Ieee.{Float, nan, binary64}
use Rattle.rows.specs.Rows.{row}
use Rattle.chart.specs.Timing.{Timing}
use Rattle.clock_walk.specs.Events.{farthest, row_ahead}
use Rattle.clock_walk.specs.Passing.{early_tempo, time_at}
use Rattle.clock_walk.specs.Quiet.{row_at, end_row}
use Rattle.clock_walk.specs.Walk.{is_due, walk}
use Rattle.chart.specs.declared.State.{State}
use Rattle.clock_walk.proofs.EachCandidate.{of_ahead}
use Rattle.clock_walk.proofs.ClockTest.{none-due, walk_end}

module _ (r : ℤ) where
  at_entry : (beats : List Float) (place : ℕ) → lt_z r (row_at beats place) ≡ true → place < length beats → lt_z r (row binary64 (get_or beats place nan)) ≡ true
  unfolding row_at
  at_entry beats place h l = rw (lt-ltb place (length beats) l) at h

  at-end : (s : State) → lt_z r (end_row s.warping s.end) ≡ true → s.warping ≡ true → lt_z r (row binary64 s.end) ≡ true
  unfolding end_row
  at-end s h e = rw e at h

  pub none_before : (t : Timing) (s : State) → lt_z r farthest ≡ true → lt_z r (end_row s.warping s.end) ≡ true
      → lt_z r (row_at t.tempo_beats s.tempos) ≡ true → lt_z r (row_at t.delay_beats s.delays) ≡ true → lt_z r (row_at t.stop_beats s.stops) ≡ true → lt_z r (row_at t.warp_beats s.warps) ≡ true
      → is_due t r s ≡ false
  none_before t s all end tempo delay stop warp =
      none-due r t s
      (of_ahead (λ (a : Option Next). lt_z r (row_ahead a) ≡ true) t s all (at-end s end) (at_entry t.tempo_beats s.tempos tempo)
      (at_entry t.delay_beats s.delays delay) (at_entry t.stop_beats s.stops stop) (at_entry t.warp_beats s.warps warp))

pub quiet-end : (t : Timing) (r : ℤ) (s : State) → is_due t r s ≡ false
    → walk t r s ≡ record { state = s; passed = 0; time = time_at (early_tempo t.tempo_beats t.tempo_values s) t.tempo_values s r }
unfolding walk
quiet-end t r s none = walk_end (early_tempo t.tempo_beats t.tempo_values s) t r s 0 none
