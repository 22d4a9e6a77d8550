-- `tidy_speeds_placed::speed_at` reads the three columns. Assumes nothing.
use mathlib.Core.Path.{sym}
use Rattle.tidy_speeds_entries.proofs.SpeedColumns.{value-at}
use Rattle.tidy_speeds_placed.proofs.speed_at.Goals as goal

pub returns : goal.returns
returns c = let g = c in sym (value-at g.args.ratios.now g.args.delays.now g.args.units.now g.args.i g.requires.0 g.requires.1 g.requires.2)
