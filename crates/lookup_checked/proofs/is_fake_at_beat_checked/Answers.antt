-- `lookup_checked::is_fake_at_beat_checked` answers by the row's beat, or refuses the beat. Assumes nothing.
use mathlib.Core.Path.{sym, ◌∙◌}
use mir.Syntax.{w32}
use mir.Val.{to_z, of_z}
use mir.ValLaws.{to_z-of_z}
use Rattle.limits.specs.declared.Kind.TheVariants.{Beat}
use Rattle.limits.specs.Numbers.{range_of, in_range}
use Rattle.lookup.specs.Lookups.{asked_row}
use Rattle.lookup_tests.specs.LookupLists.{list_columns}
use Rattle.lookup_checked.specs.Checked.{fake_by}
use Rattle.lookup_checked.proofs.AnswersAtRow.{taken-row, refused-row, near, found_in, asked_in}
use borrow.Author.Rules.{rules}
use Rattle.lookup_checked.proofs.is_fake_at_beat_checked.Goals as goal

pub beat_of_row-at-requires : goal.beat_of_row-at-requires
beat_of_row-at-requires c =
    let allowed = c in
    let start = allowed in
    let back = to_z-of_z w32 c.asked_row-row.result (record { sfits = c.asked_row-row.type_inv }) ∙ c.asked_row-row.ensures in
    near (asked_row start.args.beat) (to_z w32 (of_z w32 c.asked_row-row.result)) back (asked_in start.args.beat (sym allowed.taken.ensures ∙ allowed.if-taken.true))

pub in_fake-requires : goal.in_fake-requires
in_fake-requires c =
    let beat = c in
    let asked = beat in
    let allowed = asked in
    let start = allowed in
    let row = asked_row start.args.beat in
    let through = to_z w32 (of_z w32 asked.asked_row-row.result) in
    let back = to_z-of_z w32 asked.asked_row-row.result (record { sfits = asked.asked_row-row.type_inv }) ∙ asked.asked_row-row.ensures in
    let yes = sym allowed.taken.ensures ∙ allowed.if-taken.true in
    let taken = asked_in start.args.beat yes in
    found_in row through back taken beat.beat_of_row-at.result start.args.fake_beats.now c.place_of-place.result c.place_of-place.ensures

pub returns-then-taken : goal.returns-then-taken
unfolding fake_by
returns-then-taken c =
    let fake = c in
    let found = fake in
    let beat = found in
    let asked = beat in
    let allowed = asked in
    let start = allowed in
    let row = asked_row start.args.beat in
    let through = to_z w32 (of_z w32 asked.asked_row-row.result) in
    let back = to_z-of_z w32 asked.asked_row-row.result (record { sfits = asked.asked_row-row.type_inv }) ∙ asked.asked_row-row.ensures in
    let yes = sym allowed.taken.ensures ∙ allowed.if-taken.true in
    let taken = asked_in start.args.beat yes in
    c.answered.ensures ∙ taken-row (fake_by (list_columns start.args.fake_beats.now start.args.fake_lengths.now)) row (in_range (range_of Beat) start.args.beat) through back yes beat.beat_of_row-at.result beat.beat_of_row-at.ensures fake.in_fake.result (rw found.place_of-place.ensures at fake.in_fake.ensures)

pub returns : goal.returns
returns c =
    let start = c in
    refused-row (fake_by (list_columns start.args.fake_beats.now start.args.fake_lengths.now)) (asked_row start.args.beat) (in_range (range_of Beat) start.args.beat) (sym c.taken.ensures ∙ c.if-taken.false)
