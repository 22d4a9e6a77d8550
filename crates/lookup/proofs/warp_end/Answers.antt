-- `lookup::warp_end` is the end of the last warp of those counted. Assumes nothing.
use Rattle.lookup.specs.inside.Finding.{warp_end}
use lib.Ieee.{div, of_bits}
use Rattle.picks.proofs.Rules.{flags}
use Rattle.lookup.proofs.warp_end.Goals as goal

pub returns-then-n-eq0 : goal.returns-then-n-eq0
unfolding warp_end div of_bits
returns-then-n-eq0 c = search flags depth 8

pub returns-then-warp_lengths-n : goal.returns-then-warp_lengths-n
unfolding warp_end of_bits
returns-then-warp_lengths-n c = search flags depth 8

pub returns : goal.returns
unfolding warp_end div of_bits
returns c = search flags depth 8
