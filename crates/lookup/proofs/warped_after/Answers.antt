-- `lookup::warped_after` tells whether a row is warped. Assumes nothing.
use Rattle.std.proofs.Common.{sym, ◌∙◌, w32}
use mir.ValLaws.{to_z-of_z}
use Rattle.lookup_tests.specs.LookupLists.{WarpLists, warp_lists}
use Rattle.lookup.proofs.HeldSpans.{warped-inside, warped-outside}
use Rattle.lookup.proofs.warped_after.Goals as goal
use Rattle.lookup.proofs.warped_after.Goals.{Start}

abbrev lists_at : Start → WarpLists
lists_at start =
    warp_lists start.args.stop_beats.now start.args.stop_values.now start.args.delay_beats.now start.args.delay_values.now start.args.warp_beats.now start.args.warp_lengths.now

pub start_of-requires : goal.start_of-requires
start_of-requires c = c.requires.3.passed.0

pub warp_end-requires : goal.warp_end-requires
warp_end-requires c = (c.requires.2.0, c.requires.3.passed.0)

pub is_unpaused-requires : goal.is_unpaused-requires
is_unpaused-requires c =
    record {
      usable = (c.requires.0, c.place_of.ensures.0, c.place_of.ensures.1);
      usable_2 = (c.requires.1, c.place_of-then-covers.ensures.0, c.place_of-then-covers.ensures.1);
    }

pub returns-then-covers : goal.returns-then-covers
returns-then-covers c =
    let start = c in
    let back = to_z-of_z w32 start.args.row start.ranges.row in
    let said = rw (c.note_row_to_beat_f32.ensures, back) at c.covers.ensures in
    rw (warped-inside start.args.row start.args.n c.start_of.result c.warp_end.result (lists_at (goal.at.returns-then-covers start).Start) start.requires.2 start.requires.3 c.start_of.ensures c.warp_end.ensures (sym said ∙ c.if-covers.true)) (rw (c.key_of_row-key.ensures, back) at c.is_unpaused.ensures)

pub returns : goal.returns
returns c =
    let start = c in
    let back = to_z-of_z w32 start.args.row start.ranges.row in
    let said = rw (c.note_row_to_beat_f32.ensures, back) at c.covers.ensures in
    sym (warped-outside start.args.row start.args.n c.start_of.result c.warp_end.result (lists_at (goal.at.returns start).Start) start.requires.2 start.requires.3 c.start_of.ensures c.warp_end.ensures (sym said ∙ c.if-covers.false))
