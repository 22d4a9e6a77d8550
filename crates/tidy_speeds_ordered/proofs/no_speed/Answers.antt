-- `tidy_speeds_ordered::no_speed` meets its contract. Assumes nothing.
use lib.Ieee.{div, of_bits}
use borrow.Author.Rules.{rules}
use Rattle.tidy_speeds_ordered.proofs.no_speed.Goals as goal

pub returns : goal.returns
unfolding div of_bits
returns c = search rules
