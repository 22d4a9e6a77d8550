-- `notes_rows::write_measures` writes the beats of each measure behind those before. Assumes nothing.
use native.Mathlib.Omega.{arith}
use lib.ListN.{drop, length-take, length-drop}
use borrow.Author.Rules.{rules}
use Rattle.notes_rows.proofs.FewRows.{first_rows_few}
use Rattle.notes_rows.proofs.MeasureByMeasure.{ends-within}
use Rattle.notes_rows.proofs.WritingMeasures.{nothing_written, same-room, measure_fits, measure_written, all-written}
use Rattle.notes_rows.proofs.write_measures.Goals as goal

pub loop-place-init : goal.loop-place-init
loop-place-init c = nothing_written

pub offset_bounds-beats-written : goal.offset_bounds-beats-written
offset_bounds-beats-written c =
    let turn = c in
    let loop = turn in
    let start = loop in
    let room = measure_fits start.requires.1 loop.loop-place.invariant turn.loop-place-test.true c.count_measure_rows-measure.ensures in
    let same = same-room start.requires.1 loop.loop-place.invariant in
    search rules

pub slice_bounds-write_measure-count : goal.slice_bounds-write_measure-count
slice_bounds-write_measure-count c =
    let turn = c in
    let loop = turn in
    let start = loop in
    let room = measure_fits start.requires.1 loop.loop-place.invariant turn.loop-place-test.true c.count_measure_rows-measure.ensures in
    search rules

pub slice_bounds-write_measure-start : goal.slice_bounds-write_measure-start
slice_bounds-write_measure-start c =
    let turn = c in
    let loop = turn in
    let start = loop in
    let room = measure_fits start.requires.1 loop.loop-place.invariant turn.loop-place-test.true c.count_measure_rows-measure.ensures in
    search rules

pub slice_bounds-write_measure-end : goal.slice_bounds-write_measure-end
slice_bounds-write_measure-end c =
    let turn = c in
    let loop = turn in
    let start = loop in
    let room = measure_fits start.requires.1 loop.loop-place.invariant turn.loop-place-test.true c.count_measure_rows-measure.ensures in
    search rules

pub write_measure-requires : goal.write_measure-requires
write_measure-requires c =
    let counted = c in
    let turn = counted in
    let loop = turn in
    let start = loop in
    let room = measure_fits start.requires.1 loop.loop-place.invariant turn.loop-place-test.true counted.count_measure_rows-measure.ensures in
    let bytes = start.args.note_data.now in
    let place = loop.loop-place.place in (
      omega (arith, loop.loop-place.invariant.each_a_place),
      omega (arith, counted.count_measure_rows-measure.ensures.rows, first_rows_few (drop place bytes), length-drop place bytes),
      simp (length-take, length-drop) (omega arith),
    )

pub overflow_add-index : goal.overflow_add-index
overflow_add-index c = omega (arith, c.loop-place.invariant.each_a_place)

pub overflow_add-written : goal.overflow_add-written
overflow_add-written c =
    let counted = c in
    let turn = counted in
    let loop = turn in
    let start = loop in
    omega (arith, measure_fits start.requires.1 loop.loop-place.invariant turn.loop-place-test.true counted.count_measure_rows-measure.ensures, same-room start.requires.1 loop.loop-place.invariant)

pub overflow_add-place : goal.overflow_add-place
overflow_add-place c =
    let counted = c in
    let turn = counted in
    omega (arith, ends-within _ _ turn.loop-place-test.true counted.count_measure_rows-measure.ensures)

pub loop-place-smaller : goal.loop-place-smaller
loop-place-smaller c =
    let counted = c in
    let turn = counted in
    omega (arith, ends-within _ _ turn.loop-place-test.true counted.count_measure_rows-measure.ensures, counted.count_measure_rows-measure.ensures.end)

pub loop-place-preserved : goal.loop-place-preserved
loop-place-preserved c =
    let written = c in
    let counted = written in
    let turn = counted in
    let loop = turn in
    let start = loop in
    measure_written start.requires.1 loop.loop-place.invariant turn.loop-place-test.true counted.count_measure_rows-measure.ensures written.write_measure.ensures

pub shape_of-beats : goal.shape_of-beats
shape_of-beats c = same-room c.requires.1 c.loop-place.invariant

pub returns : goal.returns
returns c = all-written c.requires.1 c.loop-place.invariant (omega arith)
