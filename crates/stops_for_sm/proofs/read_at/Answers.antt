-- `stops_for_sm::read_at` reads at a place, and a NaN past the end. Assumes nothing.
use Rattle.std.proofs.Common.{sym}
use lib.Ieee.{div, of_bits, nan}
use lib.ListN.{get_or-eq_default}
use Rattle.stops_for_sm.proofs.read_at.Goals as goal

pub returns : goal.returns
unfolding div of_bits
returns c =
    sym (get_or-eq_default c.args.list.now nan c.if-place-list.false)
