-- `clock::no_mark` is `no_mark`. Assumes nothing.
use lib.Ieee.{of_bits}
use Rattle.clock.specs.Marked.{no_mark}
use borrow.Author.Rules.{rules}
use Rattle.clock.proofs.no_mark.Goals as goal

pub returns : goal.returns
unfolding no_mark of_bits
returns c = rw c.fresh_state-state.ensures
