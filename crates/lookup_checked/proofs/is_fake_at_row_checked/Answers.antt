-- `lookup_checked::is_fake_at_row_checked` answers by the row's beat, or refuses the row. Assumes nothing.
use mathlib.Core.Path.{sym, ◌∙◌}
use mir.Syntax.{w32}
use mir.Val.{to_z, of_z}
use mir.ValLaws.{to_z-of_z}
use Rattle.limits.specs.Numbers.{row_in}
use Rattle.lookup_tests.specs.LookupLists.{list_columns}
use Rattle.lookup_checked.specs.Checked.{fake_by}
use Rattle.lookup_checked.proofs.AnswersAtRow.{taken-row, refused-row, near, found_in}
use borrow.Author.Rules.{rules}
use Rattle.lookup_checked.proofs.is_fake_at_row_checked.Goals as goal

pub beat_of_row-at-requires : goal.beat_of_row-at-requires
beat_of_row-at-requires c =
    let start = c in
    let row = start.args.row in
    let back = to_z-of_z w32 row start.ranges.row in
    near row (to_z w32 (of_z w32 row)) back (sym (rw back at c.row_taken.ensures) ∙ c.if-row_taken.true)

pub in_fake-requires : goal.in_fake-requires
in_fake-requires c =
    let beat = c in
    let allowed = beat in
    let start = allowed in
    let row = start.args.row in
    let through = to_z w32 (of_z w32 row) in
    let back = to_z-of_z w32 row start.ranges.row in
    let yes = sym (rw back at allowed.row_taken.ensures) ∙ allowed.if-row_taken.true in
    let taken = yes in
    found_in row through back taken beat.beat_of_row-at.result start.args.fake_beats.now c.place_of-place.result c.place_of-place.ensures

pub returns-then-row_taken : goal.returns-then-row_taken
unfolding fake_by
returns-then-row_taken c =
    let fake = c in
    let found = fake in
    let beat = found in
    let allowed = beat in
    let start = allowed in
    let row = start.args.row in
    let through = to_z w32 (of_z w32 row) in
    let back = to_z-of_z w32 row start.ranges.row in
    let yes = sym (rw back at allowed.row_taken.ensures) ∙ allowed.if-row_taken.true in
    let taken = yes in
    c.answered.ensures ∙ taken-row (fake_by (list_columns start.args.fake_beats.now start.args.fake_lengths.now)) row (row_in row) through back yes beat.beat_of_row-at.result beat.beat_of_row-at.ensures fake.in_fake.result (rw found.place_of-place.ensures at fake.in_fake.ensures)

pub returns : goal.returns
returns c =
    let start = c in
    refused-row (fake_by (list_columns start.args.fake_beats.now start.args.fake_lengths.now)) start.args.row (row_in start.args.row) (sym (rw (to_z-of_z w32 start.args.row start.ranges.row) at c.row_taken.ensures) ∙ c.if-row_taken.false)
