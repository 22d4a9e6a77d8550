-- `report_feed::put` meets its contract: each call keeps every column but its own. Assumes nothing.
use mathlib.Core.Path.{refl}
use lib.Ieee.{of_bits, binary64}
use Prim.Native.Nat.{ℕ, ◌%◌}
use Rattle.report_feed.proofs.Turns.{placed-none, count_none}
use Rattle.report_feed.proofs.put.Goals as goal

pub returns-then-store-eq0 : goal.returns-then-store-eq0
returns-then-store-eq0 c =
    let zero = c.if-store-eq0.true in
    record {
      counts_after = count_none _ _ zero;
      tempo_beats_after = placed-none (of_bits binary64) 2 1 _ _ zero refl;
      tempo_values_after = placed-none (of_bits binary64) 2 2 _ _ zero refl;
      stop_beats_after = placed-none (of_bits binary64) 3 1 _ _ zero refl;
      stop_values_after = placed-none (of_bits binary64) 3 2 _ _ zero refl;
      delay_beats_after = placed-none (of_bits binary64) 4 1 _ _ zero refl;
      delay_values_after = placed-none (of_bits binary64) 4 2 _ _ zero refl;
      warp_beats_after = placed-none (of_bits binary64) 5 1 _ _ zero refl;
      warp_lengths_after = placed-none (of_bits binary64) 5 2 _ _ zero refl;
      speed_beats_after = placed-none (of_bits binary64) 6 1 _ _ zero refl;
      speed_ratios_after = placed-none (of_bits binary64) 6 2 _ _ zero refl;
      speed_delays_after = placed-none (of_bits binary64) 6 3 _ _ zero refl;
      speed_units_after = placed-none (λ (n : ℕ). n % 256) 6 4 _ _ zero refl;
      scroll_beats_after = placed-none (of_bits binary64) 7 1 _ _ zero refl;
      scroll_values_after = placed-none (of_bits binary64) 7 2 _ _ zero refl;
      fake_beats_after = placed-none (of_bits binary64) 8 1 _ _ zero refl;
      fake_lengths_after = placed-none (of_bits binary64) 8 2 _ _ zero refl;
    }

pub shape_of-counts : goal.shape_of-counts
shape_of-counts c = c.put_count.auto.counts

pub shape_of-tempo_beats : goal.shape_of-tempo_beats
shape_of-tempo_beats c = c.put_number.auto.column

pub shape_of-tempo_values : goal.shape_of-tempo_values
shape_of-tempo_values c = c.put_number-2.auto.column

pub shape_of-stop_beats : goal.shape_of-stop_beats
shape_of-stop_beats c = c.put_number-3.auto.column

pub shape_of-stop_values : goal.shape_of-stop_values
shape_of-stop_values c = c.put_number-4.auto.column

pub shape_of-delay_beats : goal.shape_of-delay_beats
shape_of-delay_beats c = c.put_number-5.auto.column

pub shape_of-delay_values : goal.shape_of-delay_values
shape_of-delay_values c = c.put_number-6.auto.column

pub shape_of-warp_beats : goal.shape_of-warp_beats
shape_of-warp_beats c = c.put_number-7.auto.column

pub shape_of-warp_lengths : goal.shape_of-warp_lengths
shape_of-warp_lengths c = c.put_number-8.auto.column

pub shape_of-speed_beats : goal.shape_of-speed_beats
shape_of-speed_beats c = c.put_number-9.auto.column

pub shape_of-speed_ratios : goal.shape_of-speed_ratios
shape_of-speed_ratios c = c.put_number-10.auto.column

pub shape_of-speed_delays : goal.shape_of-speed_delays
shape_of-speed_delays c = c.put_number-11.auto.column

pub shape_of-speed_units : goal.shape_of-speed_units
shape_of-speed_units c = c.put_unit.auto.units

pub shape_of-scroll_beats : goal.shape_of-scroll_beats
shape_of-scroll_beats c = c.put_number-12.auto.column

pub shape_of-scroll_values : goal.shape_of-scroll_values
shape_of-scroll_values c = c.put_number-13.auto.column

pub shape_of-fake_beats : goal.shape_of-fake_beats
shape_of-fake_beats c = c.put_number-14.auto.column

pub shape_of-fake_lengths : goal.shape_of-fake_lengths
shape_of-fake_lengths c = c.put_number-15.auto.column

pub returns : goal.returns
returns c =
    record {
      counts_after = c.put_count.ensures;
      tempo_beats_after = c.put_number.ensures;
      tempo_values_after = c.put_number-2.ensures;
      stop_beats_after = c.put_number-3.ensures;
      stop_values_after = c.put_number-4.ensures;
      delay_beats_after = c.put_number-5.ensures;
      delay_values_after = c.put_number-6.ensures;
      warp_beats_after = c.put_number-7.ensures;
      warp_lengths_after = c.put_number-8.ensures;
      speed_beats_after = c.put_number-9.ensures;
      speed_ratios_after = c.put_number-10.ensures;
      speed_delays_after = c.put_number-11.ensures;
      speed_units_after = c.put_unit.ensures;
      scroll_beats_after = c.put_number-12.ensures;
      scroll_values_after = c.put_number-13.ensures;
      fake_beats_after = c.put_number-14.ensures;
      fake_lengths_after = c.put_number-15.ensures;
    }
