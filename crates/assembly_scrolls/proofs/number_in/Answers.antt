-- `assembly_scrolls::number_in` has the list assembled in rooms of its own. Assumes nothing.
use mathlib.Core.Path.{sym}
use native.Mathlib.Omega.{arith}
use lib.Seq.{length-take-le}
use Rattle.assembly_scrolls.proofs.Outcomes.{long-answered, answered}
use borrow.Author.Rules.{rules}
use Rattle.assembly_scrolls.proofs.number_in.Goals as goal

pub returns-then-beats-gt-MOST_ENTRIES : goal.returns-then-beats-gt-MOST_ENTRIES
returns-then-beats-gt-MOST_ENTRIES c = let given = c.args in long-answered given.beats.now given.values.now given.room c.if-beats-gt-MOST_ENTRIES.true

pub slice_bounds-beat_room-end : goal.slice_bounds-beat_room-end
slice_bounds-beat_room-end c = omega (arith, c.room_of-n.ensures)

pub slice_bounds-assemble_scrolls-end : goal.slice_bounds-assemble_scrolls-end
slice_bounds-assemble_scrolls-end c = sym (length-take-le _ _ (omega (arith, c.room_of-n.ensures)))

pub slice_bounds-value_room-end : goal.slice_bounds-value_room-end
slice_bounds-value_room-end c = omega (arith, c.room_of-n.ensures)

pub slice_bounds-assemble_scrolls-end-2 : goal.slice_bounds-assemble_scrolls-end-2
slice_bounds-assemble_scrolls-end-2 c = sym (length-take-le _ _ (omega (arith, c.room_of-n.ensures)))

pub returns : goal.returns
returns c =
    let given = c.args in
    answered given.beats.now given.values.now given.room c.if-beats-gt-MOST_ENTRIES.false c.room_of-n.ensures (length-take-le _ _ (omega (arith, c.room_of-n.ensures))) (length-take-le _ _ (omega (arith, c.room_of-n.ensures))) c.assemble_scrolls-outcome.ensures
