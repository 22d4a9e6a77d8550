-- `mend_scrolls::mend_in` walks in the lent columns, and lays what it finds. Assumes nothing.
use Rattle.limits.proofs.ListTaken.{list-taken}
use Rattle.mend_scrolls.proofs.mend_in.Goals as goal

pub walk-count-requires : goal.walk-count-requires
walk-count-requires c =
    let start = c in
    record {
      beats_len = (list-taken start.requires.values_value).even;
      work_for = start.requires.work_for;
    }

pub lay_mended-requires : goal.lay_mended-requires
lay_mended-requires c =
    let walked = c in
    let start = walked in
    record {
      values_value = start.requires.values_value;
      walked_beats = walked.walk-count.ensures;
    }
