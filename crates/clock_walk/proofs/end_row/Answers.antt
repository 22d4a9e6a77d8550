-- `clock_walk::end_row` is `end_row`. Assumes nothing.
use Rattle.std.proofs.Common.{◌∙◌}
use Rattle.rows.proofs.BackFromBits.{back}
use Rattle.clock_walk.specs.Quiet.{end_row}
use Rattle.clock_walk.proofs.end_row.Goals as goal

pub returns-then-warping : goal.returns-then-warping
unfolding end_row
returns-then-warping c = rw c.if-warping.true (back c.beat_to_note_row.result (record { sfits = c.beat_to_note_row.type_inv }) ∙ c.beat_to_note_row.ensures)

pub returns : goal.returns
unfolding end_row
returns c = rw c.if-warping.false
