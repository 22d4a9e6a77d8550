-- `lookup::first_cursor` stands before every entry. Assumes nothing.
use Rattle.lookup.proofs.first_cursor.Goals as goal

pub warp_at-requires : goal.warp_at-requires
warp_at-requires c = (c.requires.warps.0, c.place_after-warps.ensures.1)

pub fake_at-requires : goal.fake_at-requires
fake_at-requires c = (c.requires.fakes.0, c.place_after-fakes.ensures.1)

pub returns : goal.returns
returns c = record { stops = c.place_after.ensures.1; delays = c.place_after-2.ensures.1; warps = c.warp_at.ensures.1; fakes = c.fake_at.ensures.1 }
