-- `tidy_speeds_ordered::write_speed` meets its contract. Assumes nothing.
use mathlib.Core.Path.{refl}
use Rattle.tidy_speeds_ordered.proofs.write_speed.Goals as goal

pub returns : goal.returns
returns c =
    record {
      out_beats_after = rw c.on_row.ensures;
      out_ratios_after = refl;
      out_delays_after = refl;
      out_units_after = refl;
    }
