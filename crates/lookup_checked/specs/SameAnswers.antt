-- What is asked of the checked lookups. Definitions only.
--
-- Over lists that `check_lookups` takes, each of the six answers what its tested twin answers, number and yes or no, whatever row or beat is asked.
use Rattle.std.specs.Prelude.{◌≡◌, ℤ, Float}
use Rattle.limits.specs.declared.Kind.TheVariants.{Beat}
use Rattle.limits.specs.Numbers.{range_of, in_range, row_in}
use Rattle.lookup.specs.Lookups.{LookupLists, but_fakes, asked_number, warp_number, fake_number, judgable_number, is_warped, is_fake, is_judgable, asked_row, looked}
use Rattle.lookup_checked.specs.Checked.{fake_by, warped_by, judgable_by, at_row}

pub record SameAnswers (lists : LookupLists) : Type 0 where
  pub warp_at_row : (asked : ℤ)
      → looked (asked_number (row_in asked)) (at_row (warped_by (but_fakes lists)) asked)
      ≡ looked (warp_number (but_fakes lists) (row_in asked)) (is_warped (but_fakes lists) asked)
  pub warp_at_beat : (beat : Float)
      → looked (asked_number (in_range (range_of Beat) beat)) (at_row (warped_by (but_fakes lists)) (asked_row beat))
      ≡ looked (warp_number (but_fakes lists) (in_range (range_of Beat) beat)) (is_warped (but_fakes lists) (asked_row beat))
  pub fake_at_row : (asked : ℤ)
      → looked (asked_number (row_in asked)) (at_row (fake_by lists.fakes) asked)
      ≡ looked (fake_number lists.fakes (row_in asked)) (is_fake lists.fakes asked)
  pub fake_at_beat : (beat : Float)
      → looked (asked_number (in_range (range_of Beat) beat)) (at_row (fake_by lists.fakes) (asked_row beat))
      ≡ looked (fake_number lists.fakes (in_range (range_of Beat) beat)) (is_fake lists.fakes (asked_row beat))
  pub judgable_at_row : (asked : ℤ)
      → looked (asked_number (row_in asked)) (at_row (judgable_by lists) asked)
      ≡ looked (judgable_number lists (row_in asked)) (is_judgable lists asked)
  pub judgable_at_beat : (beat : Float)
      → looked (asked_number (in_range (range_of Beat) beat)) (at_row (judgable_by lists) (asked_row beat))
      ≡ looked (judgable_number lists (in_range (range_of Beat) beat)) (is_judgable lists (asked_row beat))
