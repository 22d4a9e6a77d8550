-- `clock_by_time::info_at` is `info_at`. Assumes nothing.
use Rattle.clock_by_time.specs.BeatAt.{info_at}
use Rattle.clock_by_time.proofs.info_at.Goals as goal

pub info_of-requires : goal.info_of-requires
info_of-requires c = c.walk_fresh-at.ensures.few

pub returns : goal.returns
unfolding info_at
returns c = rw (← c.walk_fresh-at.ensures.is) c.info_of.ensures
