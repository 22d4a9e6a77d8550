-- `lookup_tests::warp_number` is the lowest number of a question about warps. Assumes nothing.
use Rattle.lookup_tests.proofs.warp_number.Goals as goal

pub returns : goal.returns
returns c = rw (c.lower_of-3.ensures, c.lower_of-2.ensures, c.asked_number.ensures, c.lower_of.ensures, c.rising_number-warps.ensures, c.rising_number-delays.ensures, c.rising_number-stops.ensures)
