-- `lookup_tests::fake_number` is the lowest number of a question about fakes. Assumes nothing.
use Rattle.lookup_tests.proofs.fake_number.Goals as goal

pub returns : goal.returns
returns c = rw (c.lower_of.ensures, c.asked_number.ensures, c.rising_number.ensures)
