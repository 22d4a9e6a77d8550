-- The change that is found by place and nearness is the right one. Assumes nothing.
use Prim.Native.Nat.{ℕ, ◌+◌, ◌-◌, ◌≤◌, ◌<◌}
use mathlib.Core.Path.{◌≡◌}
use mathlib.Core.Bool.{Bool, true, false}
use mathlib.Core.List.{List}
use native.Mathlib.Omega.{arith}
use lib.ListN.{length}
use borrow.Author.Tests.{le-ltb}
use Rattle.order.specs.Order.{never_falls}
use Rattle.tidy_kept.specs.Keeping.{row_of}
use Rattle.tidy_kept.specs.Changing.{change_of}
use Rattle.tidy_kept.specs.inside.Changed.{Changed}
use Rattle.tidy_kept.proofs.PlacedByPlace.{Reaches, near_at, against_at, change_by, on_row_at, reaches-few, placed-changed, change-fits}
use Rattle.tidy_kept.proofs.OrderKept.{placed-falls}

moved-some : (at : ℕ) (o near_next near_previous near_last_of : Bool) → at ≤ 1024 → (change_of at o near_next near_previous near_last_of).moves ≡ true → 0 < (change_of at o near_next near_previous near_last_of).high
unfolding change_of
moved-some at o true true near_last_of few h = rw (le-ltb 1024 at few) (omega arith)
moved-some at o true false near_last_of few h = rw (le-ltb 1024 at few) (omega arith)
moved-some at o false true near_last_of few h = rw (le-ltb 1024 at few) (omega arith)
moved-some at true false false true few h = let z : ◌≡◌ {A = ℕ} 0 1 = cc (rw (le-ltb 1024 at few) at h) in absurd (omega arith)
moved-some at true false false false few h = let z : ◌≡◌ {A = ℕ} 0 1 = cc (rw (le-ltb 1024 at few) at h) in absurd (omega arith)
moved-some at false false false near_last_of few h = let z : ◌≡◌ {A = ℕ} 0 1 = cc (rw (le-ltb 1024 at few) at h) in absurd (omega arith)

module _ {B W : Type 0} (row : B → ℕ) (near : W → W → Bool) (e : B × W) (list : List (B × W)) (at : ℕ) where
  pub changed_rightly : never_falls (row_of row near) list ≡ true → Reaches row near (row e.0) at list → 0 < length list → at ≤ 1024
      → Changed row near e list (change_by row near e list at (on_row_at row near e list at))
  changed_rightly n r some few =
      let o = on_row_at row near e list at in
      let fits = change-fits row near e list at o (reaches-few row near (row e.0) at list r) some few in
      record {
        low = fits.low;
        high = fits.high;
        moving = moved-some at o (near_at row near e list (at - 1 + 1)) (near_at row near e list (against_at row near (at - 1) o)) (near_at row near e list (at - 1)) few;
        places = placed-changed row near e list at r some few;
        falling = placed-falls row near e list at o n few r some;
      }
