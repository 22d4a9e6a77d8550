-- `process_raw::number_of` takes the lower of two numbers. Assumes nothing.
use borrow.Author.Rules.{rules}
use Rattle.process_raw.proofs.number_of.Goals as goal

pub returns : goal.returns
returns c = rw (← c.list_number-tempos.ensures, ← c.list_number-stops.ensures) c.lower_of.ensures
