-- `lookup::reach_warp` goes from the place of one row in warps to that of another. Assumes nothing.
use Rattle.std.proofs.Common.{sym}
use Rattle.lookup.proofs.reach_warp.Goals as goal

pub returns-then-place-count : goal.returns-then-place-count
returns-then-place-count c =
    let start = c in
    let same = sym c.if-place-count.true in
    (record { stands = rw same c.reach-place.ensures.0; first = start.requires.1.first; last = start.requires.1.last }, rw same c.reach-place.ensures.1)

pub returns : goal.returns
returns c = (c.warp_at.ensures.1, rw c.warp_at.ensures.0 c.reach-place.ensures.1)
