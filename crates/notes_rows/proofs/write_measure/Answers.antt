-- `notes_rows::write_measure` writes the beat of each row of a measure. Assumes nothing.
use mathlib.Core.Path.{◌≡◌, sym, ◌∙◌}
use mathlib.Core.List.{append-nil}
use native.Mathlib.Omega.{arith}
use lib.ListN.{length, length-take}
use lib.Seq.{take_all}
use Rattle.notes_rows.specs.RowBeats.{beat_of_row, measure_beats}
use Rattle.order.specs.Order.{laid}
use Rattle.notes_rows.proofs.RowByRow.{all_left, row_written, none_left}
use Rattle.notes_rows.proofs.write_measure.Goals as goal

pub loop-row-init : goal.loop-row-init
loop-row-init c = sym (all_left c.args.measure c.args.rows)

pub loop-row-preserved : goal.loop-row-preserved
unfolding beat_of_row
loop-row-preserved c =
    let room = length-take c.args.rows c.args.beats.now in
    rw c.mul_add_f32.ensures (row_written c.args.measure c.args.rows c.loop-row.beat-items _ c.loop-row.row (omega (arith, room)) (omega arith) c.loop-row.invariant)

pub returns : goal.returns
unfolding laid
returns c =
    let row = c.loop-row.row in
    let items = c.loop-row.beat-items in
    let size : length items ≡ c.args.rows = omega (arith, length-take c.args.rows c.args.beats.now) in
    let all : items ≡ measure_beats c.args.measure c.args.rows = sym (append-nil items) ∙ rw (take_all row items (omega arith), none_left c.args.measure c.args.rows row (omega arith)) at c.loop-row.invariant in
    rw (← all, size)
