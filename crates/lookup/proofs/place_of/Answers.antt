-- `lookup::place_of` finds the place of a row. Assumes nothing.
use Rattle.lookup.proofs.place_of.Goals as goal

pub returns : goal.returns
returns c = (c.place_after.ensures.1, rw c.place_after.ensures.0 c.count_at.ensures)
