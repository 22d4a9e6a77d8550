-- Pairs of timings, as small as they can be, that differ in one thing that is easily left out of what has to agree, and what their answers are. Definitions only.
use Rattle.std.specs.Prelude.{ℕ, [], ◌∷◌, true, false, ◌≡◌, pos, negsuc, Float}
use Rattle.std.specs.Float.{fin, binary64}
use Rattle.std.specs.Float.Ieee.{add, lt}
use Rattle.ieee.specs.Constants.{plus_zero, sixty}
use Rattle.rows.specs.Rows.{row}
use Rattle.chart.specs.Timing.{Timing, timing}
use Rattle.clock_tests.specs.TimingNumbers.{timing_number}
use Rattle.clock_histories.specs.Demand.{alone}
use Rattle.clock_edits_laws.specs.AgreeingTimings.{entries_on, elsewhere}
use Rattle.clock_edits_laws.specs.EditsFurtherOn.{AgreeSoFar}

-- ---- numbers

abbrev pub one_twenty : Float
one_twenty = fin false 15 (pos 3)

abbrev pub four : Float
four = fin false 1 (pos 2)

abbrev pub five : Float
five = fin false 5 (pos 0)

abbrev pub six : Float
six = fin false 3 (pos 1)

abbrev pub eight : Float
eight = fin false 1 (pos 3)

abbrev pub minus_one : Float
minus_one = fin true 1 (pos 0)

abbrev pub minus_half : Float
minus_half = fin true 1 (negsuc 0)

-- 2.01 and 4.01, as an f32 has them
abbrev pub two_and_a_bit : Float
two_and_a_bit = fin false 8430551 (negsuc 21)

abbrev pub four_and_a_bit : Float
four_and_a_bit = fin false 2102395 (negsuc 18)

-- ---- timings: a tempo at beat 0, and one entry more

abbrev pub at_tempo : Float → Timing
at_tempo tempo = timing (plus_zero ∷ []) (tempo ∷ []) [] [] [] [] [] []

abbrev pub with_delay : (beat seconds : Float) → Timing
with_delay beat seconds = timing (plus_zero ∷ []) (sixty ∷ []) [] [] (beat ∷ []) (seconds ∷ []) [] []

abbrev pub with_tempo : (beat tempo : Float) → Timing
with_tempo beat tempo = timing (plus_zero ∷ beat ∷ []) (sixty ∷ tempo ∷ []) [] [] [] [] [] []

abbrev pub with_warp : (beat length : Float) → Timing
with_warp beat length = timing (plus_zero ∷ []) (sixty ∷ []) [] [] [] [] (beat ∷ []) (length ∷ [])

-- ---- at offsets of 0

abbrev pub is_taken : Timing → Type 0
is_taken t = timing_number t plus_zero plus_zero ≡ 0

abbrev pub second_of : Timing → Float → Float
second_of t beat = (alone t plus_zero plus_zero beat).time

abbrev pub count_at : Timing → Float → ℕ
count_at t beat = (alone t plus_zero plus_zero beat).count

pub record SmallestPairs : Type 0 where
  -- A delay on the asked row, and none: on other rows neither has one, and beat 4 is at 5 seconds and at 4.
  pub delay_taken : is_taken (with_delay four (fin false 1 (pos 0))) × is_taken (at_tempo sixty)
  pub delay_on_the_row : entries_on (elsewhere (row binary64 four)) (four ∷ []) (fin false 1 (pos 0) ∷ []) ≡ []
  pub delay_moves : (second_of (with_delay four (fin false 1 (pos 0))) four ≡ five) × (second_of (at_tempo sixty) four ≡ four)
  -- A tempo on the asked row, and none: beat 4 is at 4 seconds in both, and the counts are 3 and 2.
  pub tempo_taken : is_taken (with_tempo four one_twenty)
  pub tempo_counts : (second_of (with_tempo four one_twenty) four ≡ four) × (count_at (with_tempo four one_twenty) four ≡ 3) × (count_at (at_tempo sixty) four ≡ 2)
  -- Tempos of 60 and of 120: they agree for row -48, where neither has anything yet, and beat -1 is at -1 second and at -0.5.
  pub early_taken : is_taken (at_tempo one_twenty)
  pub early_agree : AgreeSoFar (at_tempo sixty) (at_tempo one_twenty) plus_zero plus_zero minus_one
  pub early_moves : (second_of (at_tempo sixty) minus_one ≡ minus_one) × (second_of (at_tempo one_twenty) minus_one ≡ minus_half)
  -- Warps of one length on one row, by beats 4 and 4.01: they end on rows 288 and 289, and beat 8 is at 6 seconds and at less.
  pub warps_taken : is_taken (with_warp four two_and_a_bit) × is_taken (with_warp four_and_a_bit two_and_a_bit)
  pub warps_start : (row binary64 four ≡ pos 192) × (row binary64 four_and_a_bit ≡ pos 192)
  pub warps_end : (row binary64 (add binary64 four two_and_a_bit) ≡ pos 288) × (row binary64 (add binary64 four_and_a_bit two_and_a_bit) ≡ pos 289)
  pub warps_move : (second_of (with_warp four two_and_a_bit) eight ≡ six) × (lt (second_of (with_warp four_and_a_bit two_and_a_bit) eight) six ≡ true)
