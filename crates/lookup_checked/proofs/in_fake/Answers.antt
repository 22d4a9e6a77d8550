-- `lookup_checked::in_fake` tests the last fake that counts. Assumes nothing.
use mathlib.Core.Path.{◌∙◌, sym}
use mir.Syntax.{w32}
use mir.ValLaws.{to_z-of_z}
use Rattle.rows.specs.RowKey.{row_key}
use Rattle.lookup.specs.Lookups.{fake_covers}
use Rattle.lookup_checked.proofs.LastCounted.{next_covers_nothing, none-covers, last-tested}
use borrow.Author.Rules.{rules}
use Rattle.lookup_checked.proofs.in_fake.Goals as goal

pub returns-then-next_on_row : goal.returns-then-next_on_row
returns-then-next_on_row c =
    let next = c in
    let start = next in
    let row = start.args.row in
    let on = rw (to_z-of_z w32 row start.ranges.row) at next.next_on_row.ensures in
    next_covers_nothing (fake_covers start.args.at) start.args.place (row_key row) start.args.fake_beats.now start.args.fake_lengths.now (sym on ∙ c.if-next_on_row.true)

pub returns-then-place-eq0 : goal.returns-then-place-eq0
returns-then-place-eq0 c =
    let next = c in
    let start = next in
    let row = start.args.row in
    let on = rw (to_z-of_z w32 row start.ranges.row) at next.next_on_row.ensures in
    none-covers (fake_covers start.args.at) start.args.place (row_key row) start.args.fake_beats.now start.args.fake_lengths.now (sym on ∙ c.if-next_on_row.false) c.if-place-eq0.true

pub returns : goal.returns
returns c =
    let value = c in
    let some = value in
    let next = some in
    let start = next in
    let row = start.args.row in
    let on = rw (to_z-of_z w32 row start.ranges.row) at next.next_on_row.ensures in
    rw (c.fake_covers.ensures, value.number_at.ensures) (last-tested (fake_covers start.args.at) start.args.place (row_key row) start.args.fake_beats.now start.args.fake_lengths.now (sym on ∙ some.if-next_on_row.false) some.if-place-eq0.false)
