-- `clock::make_mark` is `mark_made`. Assumes nothing.
use borrow.Author.Tests.{eq-eqb, ne_eqb}
use Rattle.clock.specs.Marked.{mark_made}
use borrow.Author.Rules.{rules}
use Rattle.clock.proofs.make_mark.Goals as goal

pub returns-then-number-eq-TAKEN : goal.returns-then-number-eq-TAKEN
unfolding mark_made
returns-then-number-eq-TAKEN c = rw (← c.check_timing-number.ensures, eq-eqb _ _ c.if-number-eq-TAKEN.true, c.mark_of-mark.ensures)

pub returns : goal.returns
unfolding mark_made
returns c = rw (← c.check_timing-number.ensures, ne_eqb _ _ c.if-number-eq-TAKEN.false, c.no_mark-mark.ensures)
