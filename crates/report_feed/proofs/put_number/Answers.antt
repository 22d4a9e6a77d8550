-- `report_feed::put_number` meets its contract, test by test. Assumes nothing.
use Rattle.picks.proofs.Rules.{picks}
use Rattle.report_form.specs.Stores.{stored_in}
use Rattle.report_feed.proofs.Turns.{past}
use Rattle.report_feed.proofs.put_number.Goals as goal

pub returns-then-store-list : goal.returns-then-store-list
unfolding stored_in
returns-then-store-list c = search picks

pub returns-then-store-part : goal.returns-then-store-part
unfolding stored_in
returns-then-store-part c = search picks

pub returns-then-at-column : goal.returns-then-at-column
unfolding stored_in
returns-then-at-column c = rw (← c.f64_of_bits.ensures) (search picks)

pub returns-else-at-column : goal.returns-else-at-column
unfolding stored_in
returns-else-at-column c = search (picks, past)
