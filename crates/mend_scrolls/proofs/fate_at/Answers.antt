-- `mend_scrolls::fate_at` meets its contract, fate by fate. Assumes nothing.
use mathlib.Core.Path.{◌≡◌, sym, ap, ◌∙◌}
use lib.ListN.{get_or}
use lib.Ieee.{nan}
use Rattle.order.specs.Packed.{lower_half}
use Rattle.tidy_kept.specs.Near.{near_to}
use Rattle.mend_fates.specs.inside.Walking.{near_last_of}
use Rattle.mend_scrolls.proofs.fate_at.Goals as goal
use Rattle.mend_scrolls.proofs.fate_at.Goals.{After-near_last}

-- what was asked of the entry kept last
near : (c : After-near_last) → c.near_last.result ≡ near_last_of nan near_to c.args.values.now c.args.kept.now c.args.count (lower_half (get_or c.args.numbers.now c.args.i 0))
near c =
    let given = c.args in
    c.near_last.ensures ∙ ap (near_last_of nan near_to given.values.now given.kept.now given.count) c.lower_half-place.ensures

pub returns-then-near_last : goal.returns-then-near_last
returns-then-near_last c =
    let branch = c in
    rw (sym branch.last_of_row.ensures ∙ branch.if-last_of_row.true, sym (near (goal.at.returns-then-near_last c).After-near_last) ∙ c.if-near_last.true)

pub returns-then-last_of_row : goal.returns-then-last_of_row
returns-then-last_of_row c =
    let branch = c in
    rw (sym branch.last_of_row.ensures ∙ branch.if-last_of_row.true, sym (near (goal.at.returns-then-last_of_row c).After-near_last) ∙ c.if-near_last.false)

pub returns : goal.returns
returns c = rw (sym c.last_of_row.ensures ∙ c.if-last_of_row.false)
