-- `process_raw::refused` makes the answer as it is told. Assumes nothing.
use lib.Ieee.{of_bits}
use borrow.Author.Rules.{rules}
use Rattle.process_raw.proofs.refused.Goals as goal

pub returns : goal.returns
unfolding of_bits
returns c = search rules
