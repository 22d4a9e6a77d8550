-- `clock::tempos_of` counts the tempos. Assumes nothing.
use Rattle.picks.proofs.Rules.{picks}
use borrow.Author.Rules.{rules}
use Rattle.clock.proofs.tempos_of.Goals as goal

pub returns-then-given-eq0 : goal.returns-then-given-eq0
returns-then-given-eq0 c =
    search picks depth 5

pub returns : goal.returns
returns c =
    search picks depth 5
