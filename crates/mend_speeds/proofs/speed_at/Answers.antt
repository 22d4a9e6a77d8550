-- `mend_speeds::speed_at` reads the three columns. Assumes nothing.
use Rattle.mend_speeds.proofs.speed_at.Goals as goal

pub returns : goal.returns
returns c = rw (c.entry_at.ensures, c.entry_at-2.ensures, c.entry_at-3.ensures)
