-- `tidy_speeds_ordered::writes` meets its contract. Assumes nothing.
use Rattle.picks.proofs.Rules.{flags}
use Rattle.tidy_speeds_ordered.proofs.writes.Goals as goal

pub returns-then-held : goal.returns-then-held
returns-then-held c = search flags

pub returns : goal.returns
returns c = search flags
