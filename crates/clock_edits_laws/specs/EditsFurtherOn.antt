-- Edits further on can't move earlier notes. Definitions only.
--
-- A timing before an edit and after it, both taken, with the same offsets; and one beat, asked of a fresh cursor over each. If the beat's row is 0 or more and
-- the two agree for that row, the answers are the same: number, time, count and the cursor left. On a row below 0 they are too, if the tempo at 0 is the same:
-- such a beat lies before every tempo, and the clock goes back to it from row 0 by the first one. What is added, changed or removed among the stops and
-- warps on the asked row itself changes nothing, whatever the row: the asked beat comes before them.
use Rattle.std.specs.Prelude.{false, ◌≡◌, ℤ, pos, Float}
use Rattle.std.specs.Int.Signed.{lt_z}
use Rattle.std.specs.Float.{binary64}
use Rattle.ieee.specs.Constants.{sixty}
use Rattle.rows.specs.Rows.{row}
use Rattle.chart.specs.Timing.{Timing}
use Rattle.clock_walk.specs.Passing.{first_or}
use Rattle.clock.specs.Question.{filled}
use Rattle.clock_histories.specs.Demand.{alone}
use Rattle.clock_edits_laws.specs.AgreeingTimings.{AgreeFor, AgreeButOn}

-- the first tempo, which is at beat 0; 60 where there is none
abbrev pub tempo_at_zero : Timing → Float
tempo_at_zero t = first_or sixty (filled t).tempo_values

module _ (before after : Timing) (offset global beat : Float) where
  abbrev asked : ℤ
  asked = row binary64 beat

  -- both timings are compared as they are walked: an empty list of tempos counts as 60 at beat 0
  abbrev pub AgreeSoFar : Type 0
  AgreeSoFar = AgreeFor asked (filled before) (filled after)

  abbrev pub AgreeOffTheRow : Type 0
  AgreeOffTheRow = AgreeButOn asked (filled before) (filled after)

  abbrev pub SameAnswer : Type 0
  SameAnswer = alone before offset global beat ≡ alone after offset global beat

  pub record EditsFurtherOn : Type 0 where
    pub from_zero_on : lt_z asked (pos 0) ≡ false → AgreeSoFar → SameAnswer
    pub on_any_row : tempo_at_zero before ≡ tempo_at_zero after → AgreeSoFar → SameAnswer
    pub on_the_row_itself : AgreeOffTheRow → SameAnswer
