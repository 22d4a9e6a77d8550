-- `lookup::covers` tests a span. Assumes nothing.
use Rattle.picks.proofs.Rules.{flags}
use Rattle.lookup.proofs.covers.Goals as goal

pub returns-then-start-at : goal.returns-then-start-at
returns-then-start-at c = search flags depth 8

pub returns : goal.returns
returns c = search flags depth 8
