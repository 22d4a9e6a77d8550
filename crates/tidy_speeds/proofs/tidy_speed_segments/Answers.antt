-- `tidy_speeds::tidy_speed_segments` meets its contract. Assumes nothing.
use native.Mathlib.Omega.{arith}
use mathlib.Core.Path.{sym, ◌∙◌}
use Rattle.tidy_by_rows.proofs.ByMarks.{allowed_and_rising}
use Rattle.tidy_speeds.proofs.Outcomes.{list-refused, ordered-number, ordered-list, placed-number, placed-list}
use borrow.Author.Rules.{rules}
use Rattle.tidy_speeds.proofs.tidy_speed_segments.Goals as goal

pub returns-then-number-ne-TAKEN : goal.returns-then-number-ne-TAKEN
returns-then-number-ne-TAKEN c =
    let given = c.args in
    rw (c.refused.ensures, c.speed_list_number-number.ensures) (list-refused given.beats.now given.ratios.now given.delays.now given.units.now given.out_beats.now given.out_ratios.now given.out_delays.now given.out_units.now (λ e. omega (arith, c.if-number-ne-TAKEN.true, c.speed_list_number-number.ensures, e)))

pub tidy_rising-requires : goal.tidy_rising-requires
tidy_rising-requires c = let given = c.args in ((sym c.speed_list_number-number.ensures ∙ c.if-number-ne-TAKEN.false), (allowed_and_rising given.beats.now (sym c.rise.ensures ∙ c.if-rise.true)).1)

pub returns-then-rise : goal.returns-then-rise
returns-then-rise c = c.tidy_rising.ensures

pub returns-then-in_order : goal.returns-then-in_order
returns-then-in_order c =
    let given = c.args in
    let ordered = sym c.in_order.ensures ∙ c.if-in_order.true in
    rw (ordered-number given.beats.now given.ratios.now given.delays.now given.units.now (sym c.speed_list_number-number.ensures ∙ c.if-number-ne-TAKEN.false) ordered, ordered-list given.beats.now given.ratios.now given.delays.now given.units.now (sym c.speed_list_number-number.ensures ∙ c.if-number-ne-TAKEN.false) ordered) c.tidy_ordered_untested.ensures

pub returns : goal.returns
returns c =
    let given = c.args in
    let unordered = sym c.in_order.ensures ∙ c.if-in_order.false in
    rw (placed-number given.beats.now given.ratios.now given.delays.now given.units.now (sym c.speed_list_number-number.ensures ∙ c.if-number-ne-TAKEN.false) unordered, placed-list given.beats.now given.ratios.now given.delays.now given.units.now (sym c.speed_list_number-number.ensures ∙ c.if-number-ne-TAKEN.false) unordered) c.tidy_placed_untested.ensures
