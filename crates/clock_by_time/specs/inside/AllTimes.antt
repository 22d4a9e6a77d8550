-- What the loop over many times is given and leaves: all of them answered. Definitions only.
use Rattle.std.specs.Prelude.{ℕ, ◌≤◌, List, ◌≡◌, length, Float}
use Rattle.columns.specs.Each.{laid_each}
use Rattle.clock_by_time.specs.ManyTimes.{InfoColumns, freeze_mark, delay_mark}
use Rattle.clock_by_time.specs.declared.BeatInfo.{BeatInfo}

-- each column has a place for each of so many times
pub record RoomFor (many : ℕ) (c : InfoColumns) : Type 0 where
  pub in_numbers : many ≤ length c.numbers
  pub in_beats : many ≤ length c.beats
  pub in_freezes : many ≤ length c.freezes
  pub in_delays : many ≤ length c.delays
  pub in_counts : many ≤ length c.counts

pub record AllTimes (answer : Float → BeatInfo) (times : List Float) (old new : InfoColumns) : Type 0 where
  pub numbers_are : new.numbers ≡ laid_each (λ (time : Float). (answer time).number) times old.numbers
  pub beats_are : new.beats ≡ laid_each (λ (time : Float). (answer time).beat) times old.beats
  pub freezes_are : new.freezes ≡ laid_each (λ (time : Float). freeze_mark (answer time)) times old.freezes
  pub delays_are : new.delays ≡ laid_each (λ (time : Float). delay_mark (answer time)) times old.delays
  pub counts_are : new.counts ≡ laid_each (λ (time : Float). (answer time).count) times old.counts
