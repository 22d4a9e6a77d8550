-- `lookup::start_of` is the beat of the last of the first entries. Assumes nothing.
use lib.Ieee.{div, of_bits}
use Rattle.picks.proofs.Rules.{flags}
use Rattle.lookup.proofs.start_of.Goals as goal

pub returns-then-n-eq0 : goal.returns-then-n-eq0
unfolding div of_bits
returns-then-n-eq0 c = search flags depth 8

pub returns : goal.returns
returns c = search flags depth 8
