-- `notes_rows::compute_row_to_beat` tests the data's length and the room, and then writes. Assumes nothing.
use Rattle.notes_rows.proofs.RowsOutcome.{too_long, too_little_room, all_laid}
use Rattle.notes_rows.proofs.compute_row_to_beat.Goals as goal

pub returns-then-note_data-gt-MOST_NOTE_BYTES : goal.returns-then-note_data-gt-MOST_NOTE_BYTES
returns-then-note_data-gt-MOST_NOTE_BYTES c = rw c.refused.ensures (too_long c.if-note_data-gt-MOST_NOTE_BYTES.true)

pub returns-then-count-beats : goal.returns-then-count-beats
returns-then-count-beats c = rw c.refused-then-count-beats.ensures (too_little_room c.if-note_data-gt-MOST_NOTE_BYTES.false c.count_rows-count.ensures c.if-count-beats.true)

pub returns : goal.returns
returns c = all_laid c.if-note_data-gt-MOST_NOTE_BYTES.false c.count_rows-count.ensures c.if-count-beats.false c.write_measures.ensures
