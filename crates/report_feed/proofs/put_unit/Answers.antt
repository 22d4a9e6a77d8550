-- `report_feed::put_unit` meets its contract, test by test. Assumes nothing.
use Rattle.picks.proofs.Rules.{picks}
use Rattle.report_form.specs.Stores.{stored_in}
use Rattle.report_feed.proofs.Turns.{past}
use Rattle.report_feed.proofs.put_unit.Goals as goal

pub returns-then-store-list : goal.returns-then-store-list
unfolding stored_in
returns-then-store-list c = search picks

pub returns-then-store-part : goal.returns-then-store-part
unfolding stored_in
returns-then-store-part c = search picks

pub returns-then-place-units : goal.returns-then-place-units
unfolding stored_in
returns-then-place-units c = search picks

pub returns-else-place-units : goal.returns-else-place-units
unfolding stored_in
returns-else-place-units c = search (picks, past)
