-- `tidy_speeds_placed::place_later` makes the change in each column. Assumes nothing.
use native.Mathlib.Omega.{arith}
use mathlib.Core.Path.{refl, sym, ◌∙◌}
use lib.Ieee.{nan}
use Rattle.rows.specs.RowKey.{row_key_at}
use Rattle.tidy_speeds_entries.specs.Speed.{speed_value_of, near_speed, no_speed, speed_values}
use Rattle.tidy_speeds_entries.proofs.SpeedColumns.{many-values, splice_values}
use Rattle.tidy_kept.proofs.PlacedInColumns.{high_fits, placed-later}
use Rattle.tidy_speeds_placed.proofs.place_later.Goals as goal

pub change_at-change-requires : goal.change_at-change-requires
change_at-change-requires c = let g = c in
    record {
      n_nonzero = (g.requires.n_nonzero.0, omega (arith, g.requires.n_nonzero.1), omega (arith, g.requires.n_nonzero.2));
      n_in_bounds = (omega (arith, g.requires.n_nonzero.2, g.requires.beats_len.0), omega (arith, g.requires.n_nonzero.2, g.requires.beats_len.1), omega (arith, g.requires.n_nonzero.2, g.requires.beats_len.2));
      beats_value = g.requires.beats_value;
    }

pub speed_of-comes-requires : goal.speed_of-comes-requires
speed_of-comes-requires c =
    let g = c in
    let few = high_fits row_key_at near_speed nan no_speed (g.args.beat, speed_value_of g.args.value) g.args.n g.args.beats.now (speed_values g.args.ratios.now g.args.delays.now g.args.units.now) g.requires.n_nonzero.2 (omega (arith, many-values g.args.ratios.now g.args.delays.now g.args.units.now, g.requires.beats_len.0, g.requires.beats_len.1, g.requires.beats_len.2)) c.change_at-change.result c.change_at-change.ensures in
    record {
      high_nonzero = c.change_at-change.ensures.moving;
      high_in_bounds = (omega (arith, few, g.requires.n_nonzero.2, g.requires.beats_len.0), omega (arith, few, g.requires.n_nonzero.2, g.requires.beats_len.1), omega (arith, few, g.requires.n_nonzero.2, g.requires.beats_len.2));
    }

pub left_of-requires : goal.left_of-requires
left_of-requires c = let g = c in (c.change_at-change.ensures.low, high_fits row_key_at near_speed nan no_speed (g.args.beat, speed_value_of g.args.value) g.args.n g.args.beats.now (speed_values g.args.ratios.now g.args.delays.now g.args.units.now) g.requires.n_nonzero.2 (omega (arith, many-values g.args.ratios.now g.args.delays.now g.args.units.now, g.requires.beats_len.0, g.requires.beats_len.1, g.requires.beats_len.2)) c.change_at-change.result c.change_at-change.ensures, omega (arith, g.requires.n_nonzero.1))

pub shape_of-beats : goal.shape_of-beats
shape_of-beats c = c.splice.auto.column

pub shape_of-ratios : goal.shape_of-ratios
shape_of-ratios c = c.splice-2.auto.column

pub shape_of-delays : goal.shape_of-delays
shape_of-delays c = c.splice-3.auto.column

pub shape_of-units : goal.shape_of-units
shape_of-units c = c.splice_units.auto.column

pub returns : goal.returns
returns c =
    let g = c in
    let change = c.change_at-change.result in
    let comes = c.speed_of-comes.result in
    rw (
      c.splice.ensures,
      c.splice-2.ensures,
      c.splice-3.ensures,
      c.splice_units.ensures,
      splice_values g.args.ratios.now g.args.delays.now g.args.units.now g.args.n change.low change.high change.comes (speed_value_of comes) (sym g.requires.beats_len.0 ∙ g.requires.beats_len.1) (sym g.requires.beats_len.0 ∙ g.requires.beats_len.2) (omega (arith, g.requires.n_nonzero.2, g.requires.beats_len.0)) c.change_at-change.ensures.low (high_fits row_key_at near_speed nan no_speed (g.args.beat, speed_value_of g.args.value) g.args.n g.args.beats.now (speed_values g.args.ratios.now g.args.delays.now g.args.units.now) g.requires.n_nonzero.2 (omega (arith, many-values g.args.ratios.now g.args.delays.now g.args.units.now, g.requires.beats_len.0, g.requires.beats_len.1, g.requires.beats_len.2)) c.change_at-change.result c.change_at-change.ensures),
    )
    (placed-later row_key_at near_speed nan no_speed (g.args.beat, speed_value_of g.args.value) g.args.n g.args.beats.now (speed_values g.args.ratios.now g.args.delays.now g.args.units.now) g.requires.n_nonzero.2 (omega (arith, many-values g.args.ratios.now g.args.delays.now g.args.units.now, g.requires.beats_len.0, g.requires.beats_len.1, g.requires.beats_len.2)) change c.change_at-change.ensures (speed_value_of comes) c.speed_of-comes.ensures _ _ c.left_of.ensures refl)
