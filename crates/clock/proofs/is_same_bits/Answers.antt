-- `clock::is_same_bits` is `same_bits`. Assumes nothing.
use Rattle.clock.specs.Marked.{same_bits}
use borrow.Author.Rules.{rules}
use Rattle.clock.proofs.is_same_bits.Goals as goal

pub returns : goal.returns
unfolding same_bits
returns c = rw (c.bits_of_f64.ensures, c.bits_of_f64-2.ensures)
