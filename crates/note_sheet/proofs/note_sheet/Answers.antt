-- `note_sheet::note_sheet` has the one outcome that its definition gives. Assumes nothing.
use mathlib.Core.Path.{◌≡◌, sym, ◌∙◌}
use Rattle.chart.specs.Timing.{timing}
use Rattle.chart.specs.ChartColumns.{list_columns}
use Rattle.note_sheet.specs.Sheet.{song, sheet_columns}
use Rattle.note_sheet.proofs.SheetOutcome.{own_number, refused_by_own, refused_by_lookup, all_fit, sheet_laid}
use Rattle.note_sheet.proofs.note_sheet.Goals as goal
use Rattle.note_sheet.proofs.note_sheet.Goals.{After-lower_of-own}

-- the number of the tests that the sheet makes itself
own-number : (c : After-lower_of-own) →
    let a = c.args in
    c.lower_of-own.result ≡ own_number (song (timing a.tempo_beats.now a.tempo_values.now a.stop_beats.now a.stop_values.now a.delay_beats.now a.delay_values.now a.warp_beats.now a.warp_lengths.now) a.offset a.global (list_columns a.fake_beats.now a.fake_lengths.now)) a.rows.now (sheet_columns a.times.now a.judged.now a.snaps.now)
own-number c =
    rw (← c.check_timing-timing.ensures, ← c.rows_order_number-order.ensures, ← c.sheet_room_number-room.ensures, ← c.lower_of-later.ensures) c.lower_of-own.ensures

pub returns-then-own-ne-TAKEN : goal.returns-then-own-ne-TAKEN
returns-then-own-ne-TAKEN c =
    let a = c.args in
    rw c.refused.ensures (refused_by_own (song (timing a.tempo_beats.now a.tempo_values.now a.stop_beats.now a.stop_values.now a.delay_beats.now a.delay_values.now a.warp_beats.now a.warp_lengths.now) a.offset a.global (list_columns a.fake_beats.now a.fake_lengths.now)) a.rows.now (sheet_columns a.times.now a.judged.now a.snaps.now) c.lower_of-own.result c.judgable_number-found.result c.lower_of-number.result (own-number (goal.at.returns-then-own-ne-TAKEN c).After-lower_of-own) c.if-own-ne-TAKEN.true (rw c.rows_taken-near.ensures at c.judgable_number-found.ensures) c.lower_of-number.ensures)

pub returns-then-number-ne-TAKEN : goal.returns-then-number-ne-TAKEN
returns-then-number-ne-TAKEN c =
    let a = c.args in
    rw c.refused-then-number-ne-TAKEN.ensures (refused_by_lookup (song (timing a.tempo_beats.now a.tempo_values.now a.stop_beats.now a.stop_values.now a.delay_beats.now a.delay_values.now a.warp_beats.now a.warp_lengths.now) a.offset a.global (list_columns a.fake_beats.now a.fake_lengths.now)) a.rows.now (sheet_columns a.times.now a.judged.now a.snaps.now) (sym (own-number (goal.at.returns-then-number-ne-TAKEN c).After-lower_of-own) ∙ c.if-own-ne-TAKEN.false) c.judgable_rows-found.result _ c.judgable_rows-found.ensures c.if-number-ne-TAKEN.true)

pub time_rows-whole-requires : goal.time_rows-whole-requires
time_rows-whole-requires c =
    let a = c.args in
    all_fit (song (timing a.tempo_beats.now a.tempo_values.now a.stop_beats.now a.stop_values.now a.delay_beats.now a.delay_values.now a.warp_beats.now a.warp_lengths.now) a.offset a.global (list_columns a.fake_beats.now a.fake_lengths.now)) a.rows.now (sheet_columns a.times.now a.judged.now a.snaps.now) (sym (own-number (goal.at.time_rows-whole-requires c).After-lower_of-own) ∙ c.if-own-ne-TAKEN.false) c.judgable_rows-found.result _ c.judgable_rows-found.ensures c.if-number-ne-TAKEN.false

pub returns : goal.returns
returns c =
    let a = c.args in
    sheet_laid (song (timing a.tempo_beats.now a.tempo_values.now a.stop_beats.now a.stop_values.now a.delay_beats.now a.delay_values.now a.warp_beats.now a.warp_lengths.now) a.offset a.global (list_columns a.fake_beats.now a.fake_lengths.now)) a.rows.now (sheet_columns a.times.now a.judged.now a.snaps.now) (sym (own-number (goal.at.returns c).After-lower_of-own) ∙ c.if-own-ne-TAKEN.false) c.judgable_rows-found.result _ c.judgable_rows-found.ensures c.if-number-ne-TAKEN.false c.time_rows-whole.result _ _ c.time_rows-whole.ensures c.snap_rows.ensures
