-- Where rows rise and no value is near the one before it, every entry is kept. Assumes nothing.
use mathlib.Core.Path.{◌≡◌, refl}
use mathlib.Core.List.{List, [], ◌∷◌}
use native.Mathlib.Omega.{arith}
use lib.ListN.{length}
use Rattle.rows.specs.RowKey.{row_key_at}
use Rattle.tidy_kept.specs.Passing.{writes, entry_passed, still_written}
use Rattle.tidy_kept.proofs.AllApart.{Apart, all-written}
use Rattle.tidy_speeds_entries.specs.Speed.{SpeedEntry, near_speed, no_speed}
use Rattle.tidy_speeds_entries.proofs.NearNoSpeed.{near_no_speed}
use Rattle.tidy_speeds_ordered.specs.OrderedSpeeds.{kept_speeds}

pub first-kept : (x : SpeedEntry) (list : List SpeedEntry) → Apart row_key_at near_speed x list → kept_speeds (x ∷ list) ≡ x ∷ list
unfolding still_written writes entry_passed
first-kept x list a = rw (near_no_speed x.1) (all-written row_key_at near_speed no_speed x list a)

pub none_kept : (list : List SpeedEntry) → length list ≡ 0 → kept_speeds list ≡ list
unfolding still_written
none_kept [] h = refl
none_kept (x ∷ list) h = absurd (omega arith)
