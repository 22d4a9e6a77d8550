-- `tidy_speeds_ordered::none_held` meets its contract. Assumes nothing.
use lib.Ieee.{of_bits}
use Rattle.tidy_speeds_ordered.proofs.none_held.Goals as goal

pub returns : goal.returns
unfolding of_bits
returns c = rw (c.no_speed.ensures, c.no_speed-2.ensures)
