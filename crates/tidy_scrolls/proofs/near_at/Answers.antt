-- `tidy_scrolls::near_at` meets its contract. Assumes nothing.
use Rattle.picks.proofs.Rules.{flags}
use Rattle.tidy_scrolls.proofs.near_at.Goals as goal

pub returns-then-place-n : goal.returns-then-place-n
returns-then-place-n c = rw c.near.ensures (search flags)

pub returns : goal.returns
returns c = search flags
