-- `mend_scrolls::mend_scrolls` meets its contract. Assumes nothing.
use mathlib.Core.Path.{sym, ◌∙◌}
use Rattle.chart.specs.ChartColumns.{list_columns}
use Rattle.mend_scrolls.proofs.Outcomes.{refused_by_tests}
use Rattle.mend_scrolls.proofs.mend_scrolls.Goals as goal

pub returns-then-number-ne-TAKEN : goal.returns-then-number-ne-TAKEN
returns-then-number-ne-TAKEN c =
    let number = c.list_number-number in
    let given = c.args in
    rw (c.refused.ensures, number.ensures)
    (refused_by_tests (list_columns given.beats.now given.values.now) (list_columns given.out_beats.now given.out_values.now) given.out_fates.now (λ e. c.if-number-ne-TAKEN.true (number.ensures ∙ e)))

pub mend_taken-requires : goal.mend_taken-requires
mend_taken-requires c = let branch = c in sym branch.list_number-number.ensures ∙ branch.if-number-ne-TAKEN.false
