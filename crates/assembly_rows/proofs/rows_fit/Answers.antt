-- `assembly_rows::rows_fit` asks the call only where the room is shorter than the list. Assumes nothing.
use Rattle.assembly_rows.proofs.Outcomes.{fits_at_once, long_unfit}
use borrow.Author.Rules.{rules}
use Rattle.assembly_rows.proofs.rows_fit.Goals as goal

pub returns-then-beats-room : goal.returns-then-beats-room
returns-then-beats-room c = fits_at_once c.args.meaning c.args.beats.now c.args.values.now c.args.room c.if-beats-room.true

pub returns-then-beats-gt-MOST_ENTRIES : goal.returns-then-beats-gt-MOST_ENTRIES
returns-then-beats-gt-MOST_ENTRIES c = long_unfit c.args.meaning c.args.beats.now c.args.values.now c.args.room c.if-beats-room.false c.if-beats-gt-MOST_ENTRIES.true

pub returns : goal.returns
returns c = c.fits_below.ensures
