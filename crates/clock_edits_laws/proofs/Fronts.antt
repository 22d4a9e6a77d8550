-- The front of a list, as far as rows pass a test: within it the list is read as it is, and the entry behind it fails the test. Assumes nothing.
use Prim.Native.Nat.{ℕ, suc, ◌≤◌, ◌<◌}
use mathlib.Core.List.{List, [], ◌∷◌}
use mathlib.Core.Bool.{Bool, true, false}
use mathlib.Core.Path.{◌≡◌, refl}
use native.Mathlib.Omega.{arith}
use borrow.Author.Tests.{not-false}
use lib.ListN.{length, get_or, take}
use lib.Seq.{length-take-le}
use lib.IntN.{ℤ}
use lib.Signed.{lt_z}
use lib.Ieee.{Float, nan, binary64}
use Rattle.picks.specs.Pick.{pick}
use Rattle.rows.specs.Rows.{row}
use Rattle.chart.specs.Timing.{Timing}
use Rattle.clock_edits_laws.specs.AgreeingTimings.{up_to_row, below_row}

unfoldable pub front_by : (ℤ → Bool) → List Float → ℕ
front_by test [] = 0
front_by test (b ∷ beats) = pick (test (row binary64 b)) (suc (front_by test beats)) 0

module _ (test : ℤ → Bool) where
  pub front_le : (beats : List Float) → front_by test beats ≤ length beats
  unfolding front_by
  front_le [] = omega arith
  front_le (b ∷ beats) = go (test (row binary64 b)) (front_le beats)
    where
      go : (x : Bool) → front_by test beats ≤ length beats → pick x (suc (front_by test beats)) 0 ≤ suc (length beats)
      go true h = omega arith
      go false h = omega arith

  pub front-stops : (beats : List Float) → front_by test beats < length beats → test (row binary64 (get_or beats (front_by test beats) nan)) ≡ false
  unfolding front_by
  front-stops [] h = absurd (omega arith)
  front-stops (b ∷ beats) h = go (test (row binary64 b)) refl (front-stops beats) h
    where
      go : (x : Bool) → test (row binary64 b) ≡ x → (front_by test beats < length beats → test (row binary64 (get_or beats (front_by test beats) nan)) ≡ false)
          → pick x (suc (front_by test beats)) 0 < suc (length beats) → test (row binary64 (get_or (b ∷ beats) (pick x (suc (front_by test beats)) 0) nan)) ≡ false
      go true e k h = k (omega arith)
      go false e k h = e

  pub front_length : (beats : List Float) → length (take (front_by test beats) beats) ≡ front_by test beats
  front_length beats = length-take-le (front_by test beats) beats (front_le beats)

-- a row that is not up to another is above it
pub is-above : (r at : ℤ) → up_to_row r at ≡ false → lt_z r at ≡ true
is-above r at out = not-false (lt_z r at) out

-- a timing cut at a row: of each list its front
unfoldable pub cut : ℤ → Timing → Timing
cut r t = record {
  tempo_beats = take (front_by (up_to_row r) t.tempo_beats) t.tempo_beats;
  tempo_values = take (front_by (up_to_row r) t.tempo_beats) t.tempo_values;
  stop_beats = take (front_by (below_row r) t.stop_beats) t.stop_beats;
  stop_values = take (front_by (below_row r) t.stop_beats) t.stop_values;
  delay_beats = take (front_by (up_to_row r) t.delay_beats) t.delay_beats;
  delay_values = take (front_by (up_to_row r) t.delay_beats) t.delay_values;
  warp_beats = take (front_by (below_row r) t.warp_beats) t.warp_beats;
  warp_lengths = take (front_by (below_row r) t.warp_beats) t.warp_lengths;
}
