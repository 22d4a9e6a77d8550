-- `mend_speeds::mend_speeds` meets its contract. Assumes nothing.
use mathlib.Core.Path.{sym, ◌∙◌}
use Rattle.chart.specs.ChartColumns.{speed_columns}
use Rattle.mend_speeds.proofs.Outcomes.{refused_by_tests}
use Rattle.mend_speeds.proofs.mend_speeds.Goals as goal

pub returns-then-number-ne-TAKEN : goal.returns-then-number-ne-TAKEN
returns-then-number-ne-TAKEN c =
    let number = c.speed_list_number-number in
    let given = c.args in
    let speeds = speed_columns given.beats.now given.ratios.now given.delays.now given.units.now in
    let rooms = speed_columns given.out_beats.now given.out_ratios.now given.out_delays.now given.out_units.now in
    rw (c.refused.ensures, number.ensures) (refused_by_tests speeds rooms given.out_fates.now (λ e. c.if-number-ne-TAKEN.true (number.ensures ∙ e)))

pub mend_taken-requires : goal.mend_taken-requires
mend_taken-requires c = let branch = c in sym branch.speed_list_number-number.ensures ∙ branch.if-number-ne-TAKEN.false
