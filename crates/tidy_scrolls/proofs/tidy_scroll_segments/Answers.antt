-- `tidy_scrolls::tidy_scroll_segments` meets its contract. Assumes nothing.
use Rattle.tidy_by_rows.proofs.ByMarks.{allowed_and_rising}
use Rattle.tidy_scrolls.proofs.Outcomes.{list-refused}
use native.Mathlib.Omega.{arith}
use mathlib.Core.Path.{sym, ◌∙◌}
use Rattle.tidy_scrolls.proofs.tidy_scroll_segments.Goals as goal

pub returns-then-number-ne-TAKEN : goal.returns-then-number-ne-TAKEN
returns-then-number-ne-TAKEN c =
    let g = c in
    let number = c.list_number-number in
    rw (c.refused.ensures, number.ensures) (list-refused g.args.beats.now g.args.values.now g.args.out_beats.now g.args.out_values.now (λ e. omega (arith, c.if-number-ne-TAKEN.true, number.ensures, e)))

pub tidy_rising-requires : goal.tidy_rising-requires
tidy_rising-requires c =
    record {
      values_value = sym c.list_number-number.ensures ∙ c.if-number-ne-TAKEN.false;
      beats_value = (allowed_and_rising c.args.beats.now (sym c.rise.ensures ∙ c.if-rise.true)).1;
    }

pub returns-then-rise : goal.returns-then-rise
returns-then-rise c = c.tidy_rising.ensures

pub tidy_ordered-requires : goal.tidy_ordered-requires
tidy_ordered-requires c =
    record {
      values_value = sym c.list_number-number.ensures ∙ c.if-number-ne-TAKEN.false;
      beats_value = sym c.in_order.ensures ∙ c.if-in_order.true;
    }

pub returns-then-in_order : goal.returns-then-in_order
returns-then-in_order c = c.tidy_ordered.ensures

pub tidy_placed-requires : goal.tidy_placed-requires
tidy_placed-requires c =
    record {
      values_value = sym c.list_number-number.ensures ∙ c.if-number-ne-TAKEN.false;
      beats_value = sym c.in_order.ensures ∙ c.if-in_order.false;
    }

pub returns : goal.returns
returns c = c.tidy_placed.ensures
