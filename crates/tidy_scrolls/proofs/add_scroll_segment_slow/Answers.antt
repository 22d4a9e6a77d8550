-- `tidy_scrolls::add_scroll_segment_slow` writes the first entry, or makes the change. Assumes nothing.
use Rattle.rows.specs.RowKey.{row_key_at}
use Rattle.tidy_kept.specs.Near.{near_to}
use Rattle.tidy_kept.proofs.PlacedInColumns.{placed_first, high_fits, placed-later}
use lib.Ieee.{nan}
use native.Mathlib.Omega.{arith}
use mathlib.Core.Path.{refl}
use Rattle.tidy_scrolls.proofs.add_scroll_segment_slow.Goals as goal

pub returns-then-n-eq0 : goal.returns-then-n-eq0
returns-then-n-eq0 c =
    let g = c in
    rw c.if-n-eq0.true (placed_first row_key_at near_to nan nan (g.args.beat, g.args.value) g.args.beats.now g.args.values.now (omega arith) (omega arith))

pub value_of-comes-requires : goal.value_of-comes-requires
value_of-comes-requires c =
    let g = c in
    (c.change_at-change.ensures.moving, omega (arith, high_fits row_key_at near_to nan nan (g.args.beat, g.args.value) g.args.n g.args.beats.now g.args.values.now (omega arith) g.requires.n_bound.2 c.change_at-change.result c.change_at-change.ensures))

pub overflow_sub-left-2 : goal.overflow_sub-left-2
overflow_sub-left-2 c =
    let g = c in
    omega (arith, high_fits row_key_at near_to nan nan (g.args.beat, g.args.value) g.args.n g.args.beats.now g.args.values.now (omega arith) g.requires.n_bound.2 c.change_at-change.result c.change_at-change.ensures)

pub returns-then-change : goal.returns-then-change
returns-then-change c =
    let g = c in
    rw (c.splice.ensures, c.splice-2.ensures) (placed-later row_key_at near_to nan nan (g.args.beat, g.args.value) g.args.n g.args.beats.now g.args.values.now (omega arith) g.requires.n_bound.2 c.change_at-change.result c.change_at-change.ensures c.value_of-comes.result c.value_of-comes.ensures _ _ (rw c.if-change.true) refl)

pub returns : goal.returns
returns c =
    let g = c in
    rw (c.splice.ensures, c.splice-2.ensures) (placed-later row_key_at near_to nan nan (g.args.beat, g.args.value) g.args.n g.args.beats.now g.args.values.now (omega arith) g.requires.n_bound.2 c.change_at-change.result c.change_at-change.ensures c.value_of-comes.result c.value_of-comes.ensures _ _ (rw c.if-change.false (omega arith)) refl)
