-- The row whose beat is asked is asked: within the limit, the beat of a row has that row again, by f64 narrowed as by f32. So the question at a row's beat is the question at the row. Assumes nothing.
use Rattle.std.proofs.Common.{◌≡◌, ◌≤◌, ℤ, nat_abs, ap, ◌∙◌}
use lib.Ieee.{binary32, binary64}
use Rattle.limits.specs.Numbers.{most_row}
use Rattle.rows.specs.Rows.{row, beat_of}
use Rattle.rows.proofs.NarrowedBeat.{narrowed-beat}
use Rattle.rows.proofs.RowOfBeat.{row_of_beat}
use Rattle.lookup.specs.Lookups.{ListColumns, asked_row, is_fake}

pub row-asked : (asked : ℤ) → nat_abs asked ≤ most_row → asked_row (beat_of binary64 asked) ≡ asked
row-asked asked h = ap (row binary32) (narrowed-beat asked h) ∙ row_of_beat binary32 binary32 asked h

pub fake_at_its_beat : (fakes : ListColumns) (asked : ℤ) → nat_abs asked ≤ most_row → is_fake fakes (asked_row (beat_of binary64 asked)) ≡ is_fake fakes asked
fake_at_its_beat fakes asked h = ap (is_fake fakes) (row-asked asked h)
