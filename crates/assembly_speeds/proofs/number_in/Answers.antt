-- `assembly_speeds::number_in` has the list assembled in rooms of its own. Assumes nothing.
use mathlib.Core.Path.{sym}
use native.Mathlib.Omega.{arith}
use lib.Seq.{length-take-le}
use Rattle.assembly_speeds.proofs.Outcomes.{long-answered, answered}
use Rattle.chart.specs.ChartColumns.{speed_columns}
use borrow.Author.Rules.{rules}
use Rattle.assembly_speeds.proofs.number_in.Goals as goal

pub returns-then-beats-gt-MOST_ENTRIES : goal.returns-then-beats-gt-MOST_ENTRIES
returns-then-beats-gt-MOST_ENTRIES c = let given = c.args in long-answered (speed_columns given.beats.now given.ratios.now given.delays.now given.units.now) given.room c.if-beats-gt-MOST_ENTRIES.true

pub slice_bounds-beat_room-end : goal.slice_bounds-beat_room-end
slice_bounds-beat_room-end c = omega (arith, c.room_of-n.ensures)

pub slice_bounds-assemble_speeds-end : goal.slice_bounds-assemble_speeds-end
slice_bounds-assemble_speeds-end c = sym (length-take-le _ _ (omega (arith, c.room_of-n.ensures)))

pub slice_bounds-ratio_room-end : goal.slice_bounds-ratio_room-end
slice_bounds-ratio_room-end c = omega (arith, c.room_of-n.ensures)

pub slice_bounds-assemble_speeds-end-2 : goal.slice_bounds-assemble_speeds-end-2
slice_bounds-assemble_speeds-end-2 c = sym (length-take-le _ _ (omega (arith, c.room_of-n.ensures)))

pub slice_bounds-delay_room-end : goal.slice_bounds-delay_room-end
slice_bounds-delay_room-end c = omega (arith, c.room_of-n.ensures)

pub slice_bounds-assemble_speeds-end-3 : goal.slice_bounds-assemble_speeds-end-3
slice_bounds-assemble_speeds-end-3 c = sym (length-take-le _ _ (omega (arith, c.room_of-n.ensures)))

pub slice_bounds-unit_room-end : goal.slice_bounds-unit_room-end
slice_bounds-unit_room-end c = omega (arith, c.room_of-n.ensures)

pub slice_bounds-assemble_speeds-end-4 : goal.slice_bounds-assemble_speeds-end-4
slice_bounds-assemble_speeds-end-4 c = sym (length-take-le _ _ (omega (arith, c.room_of-n.ensures)))

pub returns : goal.returns
returns c =
    let given = c.args in
    answered (speed_columns given.beats.now given.ratios.now given.delays.now given.units.now) given.room c.if-beats-gt-MOST_ENTRIES.false c.room_of-n.ensures (length-take-le _ _ (omega (arith, c.room_of-n.ensures))) (length-take-le _ _ (omega (arith, c.room_of-n.ensures))) (length-take-le _ _ (omega (arith, c.room_of-n.ensures))) (length-take-le _ _ (omega (arith, c.room_of-n.ensures))) c.assemble_speeds-outcome.ensures
