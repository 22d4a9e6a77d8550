-- `lookup::reach_fake` goes from the place of one row in fakes to that of another. Assumes nothing.
use Rattle.std.proofs.Common.{sym}
use Rattle.lookup.proofs.reach_fake.Goals as goal

pub returns-then-place-count : goal.returns-then-place-count
returns-then-place-count c =
    let start = c in
    let same = sym c.if-place-count.true in
    (record { stands = rw same c.reach-place.ensures.0; first = start.requires.1.first; last = start.requires.1.last }, rw same c.reach-place.ensures.1)

pub returns : goal.returns
returns c = (c.fake_at.ensures.1, rw c.fake_at.ensures.0 c.reach-place.ensures.1)
