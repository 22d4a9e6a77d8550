-- `tidy_speeds_placed::place_first` writes the first entry. Assumes nothing.
use native.Mathlib.Omega.{arith}
use lib.Ieee.{nan}
use Rattle.rows.specs.RowKey.{row_key_at}
use Rattle.tidy_speeds_entries.specs.Speed.{speed_value_of, near_speed, no_speed, speed_values}
use Rattle.tidy_speeds_entries.proofs.SpeedColumns.{many-values, set_value}
use Rattle.tidy_kept.proofs.PlacedInColumns.{placed_first}
use Rattle.tidy_speeds_placed.proofs.place_first.Goals as goal

pub returns : goal.returns
returns c =
    let g = c in
    rw (set_value g.args.ratios.now g.args.delays.now g.args.units.now 0 (speed_value_of g.args.value))
    (placed_first row_key_at near_speed nan no_speed (g.args.beat, speed_value_of g.args.value) g.args.beats.now (speed_values g.args.ratios.now g.args.delays.now g.args.units.now) g.requires.0 (omega (arith, many-values g.args.ratios.now g.args.delays.now g.args.units.now, g.requires.1, g.requires.2, g.requires.3)))
