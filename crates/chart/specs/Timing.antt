-- A timing, as the clock takes it: tempos, stops, delays and warps, each a column of beats and one of values. Definitions only.
use Rattle.std.specs.Prelude.{List, Float}

pub record Timing : Type 0 where
  pub tempo_beats : List Float
  pub tempo_values : List Float
  pub stop_beats : List Float
  pub stop_values : List Float
  pub delay_beats : List Float
  pub delay_values : List Float
  pub warp_beats : List Float
  pub warp_lengths : List Float

abbrev pub timing : (tempo_beats tempo_values stop_beats stop_values delay_beats delay_values warp_beats warp_lengths : List Float) → Timing
timing tempo_beats tempo_values stop_beats stop_values delay_beats delay_values warp_beats warp_lengths = record {
  tempo_beats = tempo_beats;
  tempo_values = tempo_values;
  stop_beats = stop_beats;
  stop_values = stop_values;
  delay_beats = delay_beats;
  delay_values = delay_values;
  warp_beats = warp_beats;
  warp_lengths = warp_lengths;
}
