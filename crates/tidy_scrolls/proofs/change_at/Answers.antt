-- `tidy_scrolls::change_at` finds the change by place and nearness. Assumes nothing.
use Rattle.rows.specs.RowKey.{row_key_at}
use Rattle.tidy_kept.specs.Near.{near_to}
use Rattle.tidy_kept.proofs.Searched.{place-within}
use Rattle.tidy_kept.proofs.PlacedInColumns.{change-by}
use lib.Ieee.{nan}
use lib.Seq.{length-take-le}
use native.Mathlib.Omega.{arith}
use mathlib.Core.Path.{refl, sym}
use Rattle.tidy_scrolls.proofs.change_at.Goals as goal

pub slice_bounds-place_after-end : goal.slice_bounds-place_after-end
slice_bounds-place_after-end c = sym (length-take-le _ _ (omega arith))

pub offset_bounds-beats-last : goal.offset_bounds-beats-last
offset_bounds-beats-last c =
    let g = c in
    omega (arith, c.place_before-last.ensures, place-within row_key_at nan g.args.beats.now g.args.n c.row_key-row.result c.place_after-at.result (omega arith) g.requires.beats_value c.place_after-at.ensures)

pub bounds-beats-last : goal.bounds-beats-last
bounds-beats-last c =
    let g = c in
    omega (arith, c.place_before-last.ensures, place-within row_key_at nan g.args.beats.now g.args.n c.row_key-row.result c.place_after-at.result (omega arith) g.requires.beats_value c.place_after-at.ensures)

pub returns : goal.returns
returns c =
    let g = c in
    let key = c.row_key-row in
    let at = c.place_after-at in
    let last = c.place_before-last in
    let last_key = c.row_key in
    let against = c.held_against in
    change-by row_key_at near_to nan nan g.args.n g.args.beats.now g.args.values.now (omega arith) (omega arith) (g.args.beat, g.args.value) at.result last.result against.result key.result last_key.result last.ensures key.ensures last_key.ensures at.ensures g.requires.beats_value (omega arith) (omega arith) _ c.near_at.result c.near_at-2.result c.near_at-3.result refl against.ensures c.near_at.ensures c.near_at-2.ensures c.near_at-3.ensures c.change_of.result c.change_of.ensures
