-- `tidy_kept::near` meets its contract. Assumes nothing.
use Rattle.tidy_kept.specs.Near.{near_to}
use Rattle.tidy_kept.proofs.near.Goals as goal

pub returns : goal.returns
unfolding near_to
returns c = rw c.magnitude.ensures
