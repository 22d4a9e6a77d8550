-- Lists whose beats are finite, of which every turn uses up an entry, and whose columns are as long as one another. Definitions only.
use Rattle.std.specs.Prelude.{◌≡◌, ℕ, ◌%◌, ◌<◌, true, false, List, length, slice_index_or, Float}
use Rattle.std.specs.Float.{nan, inf}
use Rattle.std.specs.Float.Ieee.{lt, eq}
use Rattle.stops_for_sm.specs.Merging.{Sources}

-- every beat equals itself and is below infinity: it is finite
pub record AllFinite (beats : List Float) : Type 0 where
  pub same : (i : ℕ) → i < length beats → eq (slice_index_or beats i nan) (slice_index_or beats i nan) ≡ true
  pub below : (i : ℕ) → i < length beats → lt (slice_index_or beats i nan) (inf false) ≡ true

pub record Plain (s : Sources) : Type 0 where
  pub stops : AllFinite s.stops
  pub delays : AllFinite s.delay_beats
  pub warps : AllFinite s.warp_beats
  pub stop_pairs : length s.stops % 2 ≡ 0
  pub delay_columns : length s.delay_beats ≡ length s.delay_values
  pub warp_columns : length s.warp_beats ≡ length s.warp_lengths
