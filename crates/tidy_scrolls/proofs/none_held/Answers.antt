-- `tidy_scrolls::none_held` meets its contract. Assumes nothing.
use lib.Ieee.{div, of_bits}
use borrow.Author.Rules.{rules}
use Rattle.tidy_scrolls.proofs.none_held.Goals as goal

pub returns : goal.returns
unfolding div of_bits
returns c = search rules
