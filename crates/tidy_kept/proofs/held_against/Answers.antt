-- `tidy_kept::held_against` meets its contract. Assumes nothing.
use Rattle.picks.proofs.Rules.{flags}
use Rattle.tidy_kept.proofs.held_against.Goals as goal

pub returns-then-on_row : goal.returns-then-on_row
returns-then-on_row c = rw c.place_before.ensures (search flags)

pub returns : goal.returns
returns c = search flags
