-- `process_sm_walk_raw::walk_raw` lends arrays as long as lists may be, or shorter ones. Assumes nothing.
use Rattle.limits.proofs.ListTaken.{list-taken}
use borrow.Author.Rules.{rules}
use Rattle.process_sm_walk_raw.proofs.walk_raw.Goals as goal

pub walk_in-requires : goal.walk_in-requires
walk_in-requires c = record { tempo_changes = λ h. (list-taken h).few; stop_changes = λ h. (list-taken h).few }
