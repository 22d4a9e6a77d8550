-- What the clock refuses of a timing and of an asked beat. Definitions only.
use Rattle.std.specs.Prelude.{ℕ, Bool, true, false, List, [], ◌∷◌, ℤ, int_lt, Float}
use Rattle.std.specs.Float.{binary64}
use Rattle.std.specs.Float.Ieee.{eq}
use Rattle.limits.specs.Table.{bad_beat, bad_value, not_rising}
use Rattle.ieee.specs.Constants.{plus_zero}
use Rattle.picks.specs.Pick.{pick}
use Rattle.rows.specs.Rows.{row}
use Rattle.limits.specs.Numbers.{range_of, in_range}
use Rattle.limits.specs.Refusals.{lower, list_number}
use Rattle.limits.specs.declared.Kind.TheVariants.{Beat, Tempo, Pause, Value, Offset}
use Rattle.chart.specs.Timing.{Timing}

-- each row is above the one before it
unfoldable pub rises_from : ℤ → List Float → Bool
rises_from last [] = true
rises_from last (beat ∷ beats) = pick (int_lt last (row binary64 beat)) (rises_from (row binary64 beat) beats) false

-- the f64 rows of a list rise strictly
unfoldable pub rises : List Float → Bool
rises [] = true
rises (beat ∷ beats) = rises_from (row binary64 beat) beats

-- tempos start at beat 0, by value; no tempo at all is fine
unfoldable pub starts_at_zero : List Float → Bool
starts_at_zero [] = true
starts_at_zero (beat ∷ beats) = eq beat plus_zero

-- 1 to 4, the lowest over the four lists
unfoldable pub timing_lists_number : Timing → ℕ
timing_lists_number t =
    lower (list_number (range_of Beat) (range_of Tempo) t.tempo_beats t.tempo_values)
    (lower (list_number (range_of Beat) (range_of Pause) t.stop_beats t.stop_values)
    (lower (list_number (range_of Beat) (range_of Pause) t.delay_beats t.delay_values) (list_number (range_of Beat) (range_of Value) t.warp_beats t.warp_lengths)))

-- 4 for an offset beyond its limit
unfoldable pub offset_number : Float → ℕ
offset_number offset = pick (in_range (range_of Offset) offset) 0 bad_value

unfoldable pub offsets_number : Float → Float → ℕ
offsets_number offset global = lower (offset_number offset) (offset_number global)

-- 5 where a list does not rise, or the tempos start elsewhere than at 0
unfoldable pub order_number : Timing → ℕ
order_number t =
    pick (rises t.tempo_beats)
    (pick (rises t.stop_beats)
    (pick (rises t.delay_beats) (pick (rises t.warp_beats) (pick (starts_at_zero t.tempo_beats) 0 not_rising) not_rising) not_rising)
    not_rising)
    not_rising

-- The number that a timing and its offsets answer: 0 to 5.
unfoldable pub timing_number : Timing → Float → Float → ℕ
timing_number t offset global = lower (timing_lists_number t) (lower (offsets_number offset global) (order_number t))

-- 3 for an asked beat beyond the limit
unfoldable pub beat_number : Float → ℕ
beat_number beat = pick (in_range (range_of Beat) beat) 0 bad_beat
