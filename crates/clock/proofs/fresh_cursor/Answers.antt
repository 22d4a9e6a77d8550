-- `clock::fresh_cursor` is `fresh_cursor`. Assumes nothing.
use Rattle.clock.specs.Question.{fresh_cursor}
use borrow.Author.Rules.{rules}
use Rattle.clock.proofs.fresh_cursor.Goals as goal

pub returns : goal.returns
unfolding fresh_cursor
returns c =
    rw c.fresh_state-state.ensures
