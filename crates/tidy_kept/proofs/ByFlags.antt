-- The change that an entry makes, flag by flag and without the branches' names. Assumes nothing.
use Prim.Native.Nat.{ℕ, ◌+◌, ◌-◌}
use mathlib.Core.Path.{◌≡◌, refl}
use mathlib.Core.Bool.{Bool, true, false}
use lib.Dec.{ltb, eqb}
use Rattle.limits.specs.Table.{most_entries}
use Rattle.picks.specs.Pick.{pick}
use Rattle.tidy_kept.specs.declared.Change.{Change}
use Rattle.tidy_kept.specs.Changing.{change, cut, change_of}

abbrev pub change_by_flags : ℕ → Bool → Bool → Bool → Bool → Change
change_by_flags at beat_on_row near_next near_previous near_last_of =
    pick (ltb most_entries at) (change 0 0 false false false)
    (pick near_next
    (pick near_previous (change (cut (at - 1) beat_on_row) (at - 1 + 2) false false false) (change (cut (at - 1) beat_on_row) (at - 1 + 2) true true (eqb at 0)))
    (pick near_previous (change (cut (at - 1) beat_on_row) (at - 1 + 1) false false false)
    (pick beat_on_row (pick near_last_of (change at at false false false) (change (at - 1) at true false false)) (change at at true false false))))

pub by_flags : (at : ℕ) (beat_on_row near_next near_previous near_last_of : Bool) → change_of at beat_on_row near_next near_previous near_last_of ≡ change_by_flags at beat_on_row near_next near_previous near_last_of
unfolding change_of
by_flags at beat_on_row true true near_last_of = refl
by_flags at beat_on_row true false near_last_of = refl
by_flags at beat_on_row false true near_last_of = refl
by_flags at true false false true = refl
by_flags at true false false false = refl
by_flags at false false false near_last_of = refl
