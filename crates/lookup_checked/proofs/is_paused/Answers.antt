-- `lookup_checked::is_paused` tests the entry on the row, at the place that is found or before it. Assumes nothing.
use mathlib.Core.Path.{◌∙◌, sym}
use mir.Syntax.{w32}
use mir.ValLaws.{to_z-of_z}
use lib.Ieee.{of_bits}
use Rattle.rows.specs.RowKey.{row_key}
use Rattle.lookup_checked.proofs.LastCounted.{pause_there, no_pause_first, pause_before, no_pause_before}
use borrow.Author.Rules.{rules}
use Rattle.lookup_checked.proofs.is_paused.Goals as goal

pub returns-then-next_on_row : goal.returns-then-next_on_row
unfolding of_bits
returns-then-next_on_row c =
    let next = c in
    let start = next in
    let row = start.args.row in
    let on = rw (to_z-of_z w32 row start.ranges.row) at next.next_on_row.ensures in
    rw c.number_at.ensures (pause_there start.args.place (row_key row) start.args.beats.now start.args.values.now (sym on ∙ c.if-next_on_row.true))

pub returns-then-place-eq0 : goal.returns-then-place-eq0
returns-then-place-eq0 c =
    let next = c in
    let start = next in
    let row = start.args.row in
    let on = rw (to_z-of_z w32 row start.ranges.row) at next.next_on_row.ensures in
    no_pause_first start.args.place (row_key row) start.args.beats.now start.args.values.now (sym on ∙ c.if-next_on_row.false) c.if-place-eq0.true

pub returns-then-last_on_row : goal.returns-then-last_on_row
unfolding of_bits
returns-then-last_on_row c =
    let last = c in
    let some = last in
    let next = c in
    let start = next in
    let row = start.args.row in
    let on = rw (to_z-of_z w32 row start.ranges.row) at next.next_on_row.ensures in
    let before = rw (to_z-of_z w32 row start.ranges.row) at last.last_on_row.ensures in
    rw c.number_at-then-last_on_row.ensures (pause_before start.args.place (row_key row) start.args.beats.now start.args.values.now (sym on ∙ some.if-next_on_row.false) some.if-place-eq0.false (sym before ∙ c.if-last_on_row.true))

pub returns : goal.returns
returns c =
    let last = c in
    let some = last in
    let next = c in
    let start = next in
    let row = start.args.row in
    let on = rw (to_z-of_z w32 row start.ranges.row) at next.next_on_row.ensures in
    let before = rw (to_z-of_z w32 row start.ranges.row) at last.last_on_row.ensures in
    no_pause_before start.args.place (row_key row) start.args.beats.now start.args.values.now (sym on ∙ some.if-next_on_row.false) some.if-place-eq0.false start.requires.0 (sym before ∙ c.if-last_on_row.false)
