-- `notes_rows::count_rows` adds up the rows of every measure. Assumes nothing.
use mathlib.Core.Path.{ap}
use native.Mathlib.Omega.{arith}
use Rattle.notes_rows.specs.Measures.{all_rows}
use Rattle.notes_rows.proofs.FewRows.{all_rows_few}
use Rattle.notes_rows.proofs.MeasureByMeasure.{rows_after_rows, ends-within, none-behind, all_at_first}
use Rattle.notes_rows.proofs.count_rows.Goals as goal

pub loop-place-init : goal.loop-place-init
loop-place-init c = (omega arith, rw (all_at_first c.args.note_data.now) (omega arith))

pub overflow_add-rows : goal.overflow_add-rows
overflow_add-rows c =
    let counted = c in
    let turn = counted in
    let loop = turn in
    omega (arith, rows_after_rows _ _ turn.loop-place-test.true counted.count_measure_rows-measure.ensures, loop.loop-place.invariant.1, all_rows_few loop.args.note_data.now)

pub overflow_add-place : goal.overflow_add-place
overflow_add-place c =
    let counted = c in
    let turn = counted in
    omega (arith, ends-within _ _ turn.loop-place-test.true counted.count_measure_rows-measure.ensures)

pub loop-place-smaller : goal.loop-place-smaller
loop-place-smaller c =
    let counted = c in
    let turn = counted in
    omega (arith, ends-within _ _ turn.loop-place-test.true counted.count_measure_rows-measure.ensures, counted.count_measure_rows-measure.ensures.end)

pub loop-place-preserved : goal.loop-place-preserved
loop-place-preserved c =
    let counted = c in
    let turn = counted in
    let loop = turn in
    (omega (arith, ends-within _ _ turn.loop-place-test.true counted.count_measure_rows-measure.ensures), omega (arith, rows_after_rows _ _ turn.loop-place-test.true counted.count_measure_rows-measure.ensures, loop.loop-place.invariant.1))

pub returns : goal.returns
unfolding all_rows
returns c = omega (arith, c.loop-place.invariant.1, ap all_rows (none-behind c.args.note_data.now c.loop-place.place (omega arith)))
