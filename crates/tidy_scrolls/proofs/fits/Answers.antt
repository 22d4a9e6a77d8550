-- `tidy_scrolls::fits` counts only where it has to. Assumes nothing.
use Rattle.tidy_scrolls.proofs.Outcomes.{few-kept}
use Rattle.tidy_scrolls.specs.inside.Ways.{no_scroll_held}
use Rattle.tidy_kept.specs.Passing.{still_written}
use Rattle.tidy_kept.specs.Near.{near_to}
use Rattle.rows.specs.RowKey.{row_key_at}
use Rattle.order.proofs.Columns.{length-entries}
use Rattle.order.specs.Entries.{entries}
use borrow.Author.Tests.{le-leb}
use lib.ListN.{length}
use lib.Dec.{leb}
use native.Mathlib.Omega.{arith}
use mathlib.Core.Path.{sym, ap}
use Prim.Native.Nat.{ℕ, ◌≤◌}
use Rattle.tidy_scrolls.proofs.fits.Goals as goal

pub returns-then-beats-room : goal.returns-then-beats-room
returns-then-beats-room c =
    let g = c in
    let es = entries g.args.beats.now g.args.values.now in
    let few : length (still_written row_key_at near_to no_scroll_held es) ≤ g.args.room = omega (arith, few-kept g.args.beats.now g.args.values.now, length-entries g.args.beats.now g.args.values.now g.requires, c.if-beats-room.true) in
    sym (le-leb (length (still_written row_key_at near_to no_scroll_held es)) g.args.room few)

pub returns : goal.returns
returns c = ap (λ (n : ℕ). leb n c.args.room) c.count_kept.ensures
