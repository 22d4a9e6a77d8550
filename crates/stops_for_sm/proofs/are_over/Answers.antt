-- `stops_for_sm::are_over` tells two infinite heads. Assumes nothing.
use lib.Ieee.{div, of_bits}
use Rattle.stops_for_sm.proofs.are_over.Goals as goal

pub returns-then-delay_head : goal.returns-then-delay_head
unfolding div of_bits
returns-then-delay_head c = rw c.if-delay_head.true

pub returns-then-warp_head : goal.returns-then-warp_head
unfolding div of_bits
returns-then-warp_head c = rw (c.if-delay_head.false, c.if-warp_head.true)

pub returns : goal.returns
unfolding div of_bits
returns c = rw (c.if-delay_head.false, c.if-warp_head.false)
