-- Where rows rise and no value is near the one before it, every entry is kept. Assumes nothing.
use mathlib.Core.Path.{◌≡◌, refl}
use mathlib.Core.Bool.{true}
use mathlib.Core.List.{List, [], ◌∷◌}
use native.Mathlib.Omega.{arith}
use lib.ListN.{length}
use lib.Ieee.{Float, nan}
use Rattle.limits.specs.Neighbours.{every_two}
use Rattle.order.specs.Entries.{entries}
use Rattle.rows.specs.RowKey.{row_key_at}
use Rattle.tidy_kept.specs.Near.{near_to, far_from}
use Rattle.tidy_kept.specs.Passing.{writes, entry_passed, still_written}
use Rattle.tidy_kept.proofs.NearNothing.{near-nothing}
use Rattle.tidy_kept.proofs.AllApart.{all-written, columns-apart}
use Rattle.tidy_by_rows.specs.ByMarks.{row_rises}
use Rattle.tidy_scrolls.specs.inside.Ways.{no_scroll_held}

pub every-kept : (beats values : List Float) → length beats ≡ length values → every_two row_rises beats ≡ true → every_two far_from values ≡ true → still_written row_key_at near_to no_scroll_held (entries beats values) ≡ entries beats values
unfolding still_written writes entry_passed entries
every-kept [] [] same r f = refl
every-kept [] (v ∷ values) same r f = absurd (omega arith)
every-kept (b ∷ beats) [] same r f = absurd (omega arith)
every-kept (b ∷ beats) (v ∷ values) same r f = rw (near-nothing v) (all-written row_key_at near_to nan (b, v) (entries beats values) (columns-apart row_key_at near_to b v beats values (omega arith) r f))
