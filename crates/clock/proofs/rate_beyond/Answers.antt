-- `clock::rate_beyond` is beats a second by the tempo in force at the mark. Assumes nothing.
use lib.Ieee.{of_bits}
use borrow.Author.Rules.{rules}
use Rattle.clock.proofs.rate_beyond.Goals as goal

pub returns : goal.returns
unfolding of_bits
returns c = rw (c.tempo_in_force.ensures, c.either-tempos.ensures)
