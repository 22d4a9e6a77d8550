-- `clock::fresh_state` is `fresh_state`. Assumes nothing.
use mathlib.Core.Path.{refl}
use lib.Ieee.{of_bits, neg}
use Rattle.clock.specs.Question.{fresh_state}
use borrow.Author.Rules.{rules}
use Rattle.clock.proofs.fresh_state.Goals as goal

pub returns : goal.returns
unfolding fresh_state of_bits
returns c =
    refl
