-- `lookup::fake_after` tells whether a row is fake. Assumes nothing.
use Rattle.std.proofs.Common.{sym, ◌∙◌, w32}
use mir.ValLaws.{to_z-of_z}
use Rattle.lookup.proofs.HeldSpans.{in_fake_lem}
use Rattle.lookup.proofs.fake_after.Goals as goal

pub returns : goal.returns
returns c =
    let start = c in
    let said = rw (c.note_row_to_beat_f32.ensures, to_z-of_z w32 start.args.row start.ranges.row) at c.covers.ensures in
    said ∙ sym (in_fake_lem start.args.row start.args.n c.start_of.result c.fake_end.result start.args.fake_beats.now start.args.fake_lengths.now start.requires.0 start.requires.1 c.start_of.ensures c.fake_end.ensures)
