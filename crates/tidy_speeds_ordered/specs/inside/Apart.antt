-- Four columns of one length, of which every entry is kept for certain. Definitions only.
use Rattle.std.specs.Prelude.{ℕ, true, List, ◌≡◌, length, Float}
use Rattle.limits.specs.declared.Kind.TheVariants.{Beat}
use Rattle.limits.specs.Numbers.{range_of, all_in}
use Rattle.limits.specs.Neighbours.{every_two}
use Rattle.tidy_kept.specs.Near.{far_from}
use Rattle.tidy_by_rows.specs.ByMarks.{row_rises}

-- allowed beats on rows that rise, and no ratio near the one before it
pub record ColumnsApart (beats ratios delays : List Float) (units : List ℕ) : Type 0 where
  pub ratios_even : length ratios ≡ length beats
  pub delays_even : length delays ≡ length beats
  pub units_even : length units ≡ length beats
  pub allowed : all_in (range_of Beat) beats ≡ true
  pub rising : every_two row_rises beats ≡ true
  pub far : every_two far_from ratios ≡ true
