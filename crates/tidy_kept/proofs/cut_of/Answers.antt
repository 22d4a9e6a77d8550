-- `tidy_kept::cut_of` meets its contract. Assumes nothing.
use Rattle.picks.proofs.Rules.{flags}
use Rattle.tidy_kept.proofs.cut_of.Goals as goal

pub returns-then-last-eq0 : goal.returns-then-last-eq0
returns-then-last-eq0 c = search flags

pub returns-then-on_row : goal.returns-then-on_row
returns-then-on_row c = search flags

pub returns : goal.returns
returns c = search flags
