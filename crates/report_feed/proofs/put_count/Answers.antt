-- `report_feed::put_count` meets its contract, test by test. Assumes nothing.
use Rattle.picks.proofs.Rules.{picks}
use Rattle.report_form.specs.Stores.{count_in}
use Rattle.report_feed.proofs.Turns.{past}
use Rattle.report_feed.proofs.put_count.Goals as goal

pub returns-then-store-eq0 : goal.returns-then-store-eq0
unfolding count_in
returns-then-store-eq0 c = search picks

pub returns-then-at-counts : goal.returns-then-at-counts
unfolding count_in
returns-then-at-counts c = search picks

pub returns-else-at-counts : goal.returns-else-at-counts
unfolding count_in
returns-else-at-counts c = search (picks, past)
