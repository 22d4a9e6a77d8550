-- Two timings that agree as far as an asked row goes. Definitions only.
use Rattle.std.specs.Prelude.{List, [], ◌∷◌, Bool, not, ◌||◌, ◌≡◌, ℤ, Float}
use Rattle.std.specs.Int.Signed.{lt_z}
use Rattle.std.specs.Float.{binary64}
use Rattle.picks.specs.Pick.{pick}
use Rattle.rows.specs.Rows.{row}
use Rattle.chart.specs.Timing.{Timing}

-- the entries of a list whose rows pass a test, each whole: its beat and its value
unfoldable pub entries_on : (ℤ → Bool) → List Float → List Float → List (Float × Float)
entries_on test [] values = []
entries_on test (b ∷ beats) [] = []
entries_on test (b ∷ beats) (v ∷ values) = pick (test (row binary64 b)) ((b, v) ∷ entries_on test beats values) (entries_on test beats values)

-- ---- rows, by an asked one

-- on it or before it
abbrev pub up_to_row : ℤ → ℤ → Bool
up_to_row asked at = not (lt_z asked at)

-- before it
abbrev pub below_row : ℤ → ℤ → Bool
below_row asked at = lt_z at asked

-- before it or behind it
abbrev pub elsewhere : ℤ → ℤ → Bool
elsewhere asked at = lt_z at asked || lt_z asked at

-- ---- timings

-- The same tempos and delays on rows up to the asked one and on it, the same stops and warps on rows before it: on one row the asked beat comes after a tempo
-- and a delay, and before a stop and a warp.
pub record AgreeFor (asked : ℤ) (t u : Timing) : Type 0 where
  pub tempos : entries_on (up_to_row asked) t.tempo_beats t.tempo_values ≡ entries_on (up_to_row asked) u.tempo_beats u.tempo_values
  pub delays : entries_on (up_to_row asked) t.delay_beats t.delay_values ≡ entries_on (up_to_row asked) u.delay_beats u.delay_values
  pub stops : entries_on (below_row asked) t.stop_beats t.stop_values ≡ entries_on (below_row asked) u.stop_beats u.stop_values
  pub warps : entries_on (below_row asked) t.warp_beats t.warp_lengths ≡ entries_on (below_row asked) u.warp_beats u.warp_lengths

-- The same but for stops and warps on the asked row: there one timing may have what the other has not, or has otherwise.
pub record AgreeButOn (asked : ℤ) (t u : Timing) : Type 0 where
  pub tempo_beats : t.tempo_beats ≡ u.tempo_beats
  pub tempo_values : t.tempo_values ≡ u.tempo_values
  pub delay_beats : t.delay_beats ≡ u.delay_beats
  pub delay_values : t.delay_values ≡ u.delay_values
  pub stops : entries_on (elsewhere asked) t.stop_beats t.stop_values ≡ entries_on (elsewhere asked) u.stop_beats u.stop_values
  pub warps : entries_on (elsewhere asked) t.warp_beats t.warp_lengths ≡ entries_on (elsewhere asked) u.warp_beats u.warp_lengths
