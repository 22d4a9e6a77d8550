-- Scrolls mended, and the one outcome of the call. Definitions only.
use Rattle.std.specs.Prelude.{ℕ, List, ◌≡◌, length, Float}
use Rattle.limits.specs.declared.Kind.TheVariants.{Beat, Value}
use Rattle.limits.specs.Numbers.{range_of}
use Rattle.limits.specs.Refusals.{list_number}
use Rattle.order.specs.Order.{laid}
use Rattle.order.specs.Entries.{entries}
use Rattle.columns.specs.declared.Outcome.{Outcome}
use Rattle.columns.specs.Laying.{room_number, given, LaidPair}
use Rattle.chart.specs.ChartColumns.{ListColumns}
use Rattle.tidy_kept.specs.Near.{near_to}
use Rattle.mend_fates.specs.MendedLists.{mended_list, fate_bytes}

abbrev pub scroll_entries : ListColumns → List (Float × Float)
scroll_entries scrolls = entries scrolls.beats scrolls.values

-- the written list, and of each raw entry its fate
abbrev pub mended_scrolls : ListColumns → List (Float × Float)
mended_scrolls scrolls = mended_list near_to (scroll_entries scrolls)

abbrev pub scroll_fates : ListColumns → List ℕ
scroll_fates scrolls = fate_bytes near_to (scroll_entries scrolls)

-- the tests of the list, 1 to 4
abbrev pub scroll_tests : ListColumns → ℕ
scroll_tests scrolls = list_number (range_of Beat) (range_of Value) scrolls.beats scrolls.values

-- The one outcome of the call, with the rooms of the list and of the fates before and after: 1 to 4 by the tests, then 7 where the fates or the list are longer
-- than their room. The count is that of the written list; there are as many fates as raw entries.
pub record ScrollsMended (scrolls : ListColumns) (outcome : Outcome) (old new : ListColumns) (fates_old fates_new : List ℕ) : Type 0 where
  pub list : LaidPair (room_number (scroll_tests scrolls) (length scrolls.beats) (length fates_old)) (mended_scrolls scrolls) outcome old.beats new.beats old.values new.values
  pub fates_are : fates_new ≡ laid (given outcome.number (scroll_fates scrolls)) fates_old
