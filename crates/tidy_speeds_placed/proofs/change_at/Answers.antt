-- `tidy_speeds_placed::change_at` finds the change by place and nearness. Assumes nothing.
use native.Mathlib.Omega.{arith}
use mathlib.Core.Path.{refl, sym}
use lib.Seq.{length-take-le}
use lib.Ieee.{nan}
use Rattle.rows.specs.RowKey.{row_key_at}
use Rattle.tidy_speeds_entries.specs.Speed.{speed_value_of, near_speed, no_speed, speed_values}
use Rattle.tidy_speeds_entries.proofs.SpeedColumns.{many-values}
use Rattle.tidy_kept.proofs.Searched.{place-within}
use Rattle.tidy_kept.proofs.PlacedInColumns.{change-by}
use Rattle.tidy_speeds_placed.proofs.change_at.Goals as goal

pub slice_bounds-place_after-end : goal.slice_bounds-place_after-end
slice_bounds-place_after-end c = sym (length-take-le _ _ (omega arith))

pub offset_bounds-beats-last : goal.offset_bounds-beats-last
offset_bounds-beats-last c =
    let g = c in
    omega (arith, c.place_before-last.ensures, place-within row_key_at nan g.args.beats.now g.args.n c.row_key-row.result c.place_after-at.result g.requires.n_nonzero.2 g.requires.beats_value c.place_after-at.ensures, g.requires.n_nonzero.0, g.requires.n_nonzero.1)

pub bounds-beats-last : goal.bounds-beats-last
bounds-beats-last c =
    let g = c in
    omega (arith, c.place_before-last.ensures, place-within row_key_at nan g.args.beats.now g.args.n c.row_key-row.result c.place_after-at.result g.requires.n_nonzero.2 g.requires.beats_value c.place_after-at.ensures, g.requires.n_nonzero.0, g.requires.n_nonzero.2)

pub returns : goal.returns
returns c =
    let g = c in
    let values = speed_values g.args.ratios.now g.args.delays.now g.args.units.now in
    let key = c.row_key-row in
    let at = c.place_after-at in
    let last = c.place_before-last in
    let last_key = c.row_key in
    let against = c.held_against in
    change-by row_key_at near_speed nan no_speed g.args.n g.args.beats.now values g.requires.n_nonzero.2 (omega (arith, many-values g.args.ratios.now g.args.delays.now g.args.units.now, g.requires.n_in_bounds.0, g.requires.n_in_bounds.1, g.requires.n_in_bounds.2)) (g.args.beat, speed_value_of g.args.value) at.result last.result against.result key.result last_key.result last.ensures key.ensures last_key.ensures at.ensures g.requires.beats_value g.requires.n_nonzero.0 g.requires.n_nonzero.1 _ c.near_at.result c.near_at-2.result c.near_at-3.result refl against.ensures c.near_at.ensures c.near_at-2.ensures c.near_at-3.ensures c.change_of.result c.change_of.ensures
