-- Many times of one timing, which is tested once. Definitions only.
use Rattle.std.specs.Prelude.{ℕ, min, List, ◌≡◌, length, Float}
use Rattle.picks.specs.Pick.{pick}
use Rattle.columns.specs.Laying.{room_number, column_laid}
use Rattle.chart.specs.Timing.{Timing}
use Rattle.clock_tests.specs.TimingNumbers.{timing_number}
use Rattle.clock_by_time.specs.BeatAt.{beat_info_checked}
use Rattle.clock_by_time.specs.declared.BeatInfo.{BeatInfo}

-- the five columns of the answers; a mark is 1 for yes
pub record InfoColumns : Type 0 where
  pub numbers : List ℕ
  pub beats : List Float
  pub freezes : List ℕ
  pub delays : List ℕ
  pub counts : List ℕ

abbrev pub info_columns : List ℕ → List Float → (freezes delays counts : List ℕ) → InfoColumns
info_columns numbers beats freezes delays counts = record { numbers = numbers; beats = beats; freezes = freezes; delays = delays; counts = counts }

abbrev pub freeze_mark : BeatInfo → ℕ
freeze_mark i = pick i.is_in_freeze 1 0

abbrev pub delay_mark : BeatInfo → ℕ
delay_mark i = pick i.is_in_delay 1 0

-- the shortest column counts
unfoldable pub shortest_of : (numbers beats freezes delays counts : ℕ) → ℕ
shortest_of numbers beats freezes delays counts = min numbers (min beats (min freezes (min delays counts)))

abbrev pub info_places : InfoColumns → ℕ
info_places c = shortest_of (length c.numbers) (length c.beats) (length c.freezes) (length c.delays) (length c.counts)

-- The one outcome: 1 to 5 for the timing, then 7 for the room; and for each time what the call that tests the time alone answers, over the fronts of the columns.
pub record BeatInfosLaid (t : Timing) (offset global : Float) (times : List Float) (number : ℕ) (old new : InfoColumns) : Type 0 where
  pub number_is : number ≡ room_number (timing_number t offset global) (length times) (info_places old)
  pub numbers_are : new.numbers ≡ column_laid (λ (time : Float). (beat_info_checked t offset global time).number) number times old.numbers
  pub beats_are : new.beats ≡ column_laid (λ (time : Float). (beat_info_checked t offset global time).beat) number times old.beats
  pub freezes_are : new.freezes ≡ column_laid (λ (time : Float). freeze_mark (beat_info_checked t offset global time)) number times old.freezes
  pub delays_are : new.delays ≡ column_laid (λ (time : Float). delay_mark (beat_info_checked t offset global time)) number times old.delays
  pub counts_are : new.counts ≡ column_laid (λ (time : Float). (beat_info_checked t offset global time).count) number times old.counts
