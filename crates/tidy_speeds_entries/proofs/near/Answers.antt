-- `tidy_speeds_entries::near` meets its contract. Assumes nothing.
use Rattle.picks.proofs.Rules.{flags}
use Rattle.tidy_speeds_entries.specs.Speed.{near_speed}
use borrow.Author.Rules.{rules}
use Rattle.tidy_speeds_entries.proofs.near.Goals as goal

pub returns-then-near-2 : goal.returns-then-near-2
unfolding near_speed
returns-then-near-2 c = rw (← c.near.ensures, ← c.near-then-near.ensures) (search flags)

pub returns-then-near : goal.returns-then-near
unfolding near_speed
returns-then-near c = rw (← c.near.ensures, ← c.near-then-near.ensures) (search flags)

pub returns : goal.returns
unfolding near_speed
returns c = rw (← c.near.ensures) (search flags)
