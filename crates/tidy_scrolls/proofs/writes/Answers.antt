-- `tidy_scrolls::writes` meets its contract. Assumes nothing.
use Rattle.picks.proofs.Rules.{flags}
use Rattle.tidy_scrolls.proofs.writes.Goals as goal

pub returns-then-held : goal.returns-then-held
returns-then-held c = search flags

pub returns : goal.returns
returns c = search flags
