-- `tidy_scrolls::tidy_placed` lends its arrays. Assumes nothing.
use Rattle.limits.proofs.ListTaken.{list-taken}
use mathlib.Core.Path.{refl}
use Rattle.tidy_scrolls.proofs.tidy_placed.Goals as goal

pub tidy_placed_in-requires : goal.tidy_placed_in-requires
tidy_placed_in-requires c =
    let g = c in
    record {
      values_value = g.requires.values_value;
      beats_value = g.requires.beats_value;
      beats_in_bounds = ((list-taken g.requires.values_value).few, refl);
    }
