-- `lookup_tests::judgable_number` is the lowest number of a question about both. Assumes nothing.
use Rattle.lookup_tests.proofs.judgable_number.Goals as goal

pub returns : goal.returns
returns c = rw (c.lower_of.ensures, c.fake_number.ensures, c.warp_number.ensures)
