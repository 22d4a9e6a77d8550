-- `process_ssc::tidy_many` lends two arrays as long as a list may be. Assumes nothing.
use Rattle.limits.proofs.ListTaken.{list-taken}
use Rattle.process_ssc.proofs.tidy_many.Goals as goal

pub tidy_stayed-requires : goal.tidy_stayed-requires
tidy_stayed-requires c =
    record {
      values_value = (c.requires.values_value, (list-taken c.requires.values_value).few);
      known = c.requires.known;
    }
