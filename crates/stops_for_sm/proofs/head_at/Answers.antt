-- `stops_for_sm::head_at` is `head_at`. Assumes nothing.
use Rattle.picks.proofs.Rules.{flags}
use Rattle.stops_for_sm.specs.inside.InHand.{head_at}
use lib.Ieee.{div, of_bits}
use Rattle.stops_for_sm.proofs.head_at.Goals as goal

pub returns-then-place-beats : goal.returns-then-place-beats
unfolding head_at
returns-then-place-beats c = search flags depth 9

pub returns : goal.returns
unfolding head_at div of_bits
returns c = search flags depth 9
