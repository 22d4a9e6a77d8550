-- `notes_displayed::get_displayed_beats` refuses, or answers every beat. Assumes nothing.
use Rattle.std.proofs.Common.{sym, ◌∙◌, arith}
use Rattle.notes_displayed.proofs.Outcomes.{beats-refused, beats_no_room, beats-displayed}
use Rattle.notes_displayed.proofs.get_displayed_beats.Goals as goal

pub returns-then-number-ne-TAKEN : goal.returns-then-number-ne-TAKEN
returns-then-number-ne-TAKEN c =
    let tested = c in
    let start = tested in
    rw c.refused.ensures (beats-refused start.args.scroll_beats.now start.args.scroll_ratios.now start.args.beats.now start.args.numbers.now start.args.positions.now tested.scroll_columns_number-number.result tested.scroll_columns_number-number.ensures c.if-number-ne-TAKEN.true)

pub returns-then-beats-room_of : goal.returns-then-beats-room_of
returns-then-beats-room_of c =
    let room = c in
    let tested = room in
    let start = tested in
    rw c.refused-then-beats-room_of.ensures (beats_no_room start.args.scroll_beats.now start.args.scroll_ratios.now start.args.beats.now start.args.numbers.now start.args.positions.now (sym tested.scroll_columns_number-number.ensures ∙ room.if-number-ne-TAKEN.false) (rw room.room_of.ensures at c.if-beats-room_of.true))

pub show_all-requires : goal.show_all-requires
show_all-requires c =
    let fits = c in
    let room = fits in
    let tested = room in
    let enough = rw room.room_of.ensures at fits.if-beats-room_of.false in
    (sym tested.scroll_columns_number-number.ensures ∙ room.if-number-ne-TAKEN.false, omega (arith, enough), omega (arith, enough))

pub returns : goal.returns
returns c =
    let all = c in
    let fits = all in
    let room = fits in
    let tested = room in
    let start = tested in
    beats-displayed start.args.scroll_beats.now start.args.scroll_ratios.now start.args.beats.now start.args.numbers.now start.args.positions.now _ _ (sym tested.scroll_columns_number-number.ensures ∙ room.if-number-ne-TAKEN.false) (rw room.room_of.ensures at fits.if-beats-room_of.false) all.show_all.ensures
