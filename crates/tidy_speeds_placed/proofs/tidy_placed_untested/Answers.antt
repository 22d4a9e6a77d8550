-- `tidy_speeds_placed::tidy_placed_untested` refuses a list that is too long, or lends its arrays. Assumes nothing.
use native.Mathlib.Omega.{arith}
use mathlib.Core.Path.{refl}
use Rattle.tidy_speeds_entries.specs.Speed.{speed_entries}
use Rattle.tidy_speeds_entries.proofs.SpeedColumns.{many-speeds}
use Rattle.tidy_speeds_placed.proofs.Outcomes.{too_long}
use Rattle.tidy_speeds_placed.proofs.tidy_placed_untested.Goals as goal

pub returns-then-n-gt-MOST_ENTRIES : goal.returns-then-n-gt-MOST_ENTRIES
returns-then-n-gt-MOST_ENTRIES c =
    let g = c in
    rw c.refused.ensures (too_long (speed_entries g.args.beats.now g.args.ratios.now g.args.delays.now g.args.units.now) g.args.out_beats.now g.args.out_ratios.now g.args.out_delays.now g.args.out_units.now (omega (arith, c.if-n-gt-MOST_ENTRIES.true, c.least_of-n.ensures, many-speeds g.args.ratios.now g.args.delays.now g.args.units.now g.args.beats.now)))

pub tidy_in-requires : goal.tidy_in-requires
tidy_in-requires c =
    record {
      n_bound = (omega (arith, c.if-n-gt-MOST_ENTRIES.false), c.least_of-n.ensures);
      kept_beats_len = (refl, refl, refl, refl);
    }

pub returns : goal.returns
returns c = c.tidy_in.ensures
