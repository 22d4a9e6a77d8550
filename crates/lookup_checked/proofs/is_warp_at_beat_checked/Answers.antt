-- `lookup_checked::is_warp_at_beat_checked` answers by the row's beat, or refuses the beat. Assumes nothing.
use mathlib.Core.Path.{sym, ap, ◌∙◌}
use mathlib.Core.Bool.{false, not}
use mathlib.Core.Logic.{inl, inr}
use mir.Syntax.{w32}
use mir.Val.{to_z, of_z}
use mir.ValLaws.{to_z-of_z}
use Rattle.limits.specs.declared.Kind.TheVariants.{Beat}
use Rattle.limits.specs.Numbers.{range_of, in_range}
use Rattle.rows.specs.RowKey.{row_key}
use Rattle.order_search.specs.Search.{place_of}
use Rattle.lookup.specs.Lookups.{asked_row, warp_covers}
use Rattle.lookup_tests.specs.LookupLists.{WarpLists, warp_lists}
use Rattle.lookup_checked.specs.Checked.{warped_by}
use Rattle.lookup_checked.proofs.LastCounted.{last-covers, last_covers_nothing}
use Rattle.lookup_checked.proofs.AnswersAtRow.{taken-row, refused-row, near, found_in, still-taken, asked_in}
use borrow.Author.Rules.{rules}
use Rattle.lookup_checked.proofs.is_warp_at_beat_checked.Goals as goal
use Rattle.lookup_checked.proofs.is_warp_at_beat_checked.Goals.{Start, then-last_warp_covers+else-not-next_on_row, else-last_warp_covers}

abbrev lists_at : Start → WarpLists
lists_at start =
    warp_lists start.args.stop_beats.now start.args.stop_values.now start.args.delay_beats.now start.args.delay_values.now start.args.warp_beats.now start.args.warp_lengths.now

pub beat_of_row-at-requires : goal.beat_of_row-at-requires
beat_of_row-at-requires c =
    let allowed = c in
    let start = allowed in
    let back = to_z-of_z w32 c.asked_row-row.result (record { sfits = c.asked_row-row.type_inv }) ∙ c.asked_row-row.ensures in
    near (asked_row start.args.beat) (to_z w32 (of_z w32 c.asked_row-row.result)) back (asked_in start.args.beat (sym allowed.taken.ensures ∙ allowed.if-taken.true))

pub last_warp_covers-requires : goal.last_warp_covers-requires
last_warp_covers-requires c =
    let beat = c in
    let asked = beat in
    let allowed = asked in
    let start = allowed in
    let row = asked_row start.args.beat in
    let through = to_z w32 (of_z w32 asked.asked_row-row.result) in
    let back = to_z-of_z w32 asked.asked_row-row.result (record { sfits = asked.asked_row-row.type_inv }) ∙ asked.asked_row-row.ensures in
    let yes = sym allowed.taken.ensures ∙ allowed.if-taken.true in
    let taken = asked_in start.args.beat yes in
    (found_in row through back taken beat.beat_of_row-at.result start.args.warp_beats.now c.place_of-place.result c.place_of-place.ensures).0

pub next_on_row-requires : goal.next_on_row-requires
next_on_row-requires c =
    let beat = c in
    let asked = beat in
    let allowed = asked in
    let start = allowed in
    let row = asked_row start.args.beat in
    let through = to_z w32 (of_z w32 asked.asked_row-row.result) in
    let back = to_z-of_z w32 asked.asked_row-row.result (record { sfits = asked.asked_row-row.type_inv }) ∙ asked.asked_row-row.ensures in
    let yes = sym allowed.taken.ensures ∙ allowed.if-taken.true in
    let taken = asked_in start.args.beat yes in
    still-taken row through back taken

pub is_unpaused-requires : goal.is_unpaused-requires
is_unpaused-requires c =
    let beat = c in
    let asked = beat in
    let allowed = asked in
    let start = allowed in
    let row = asked_row start.args.beat in
    let through = to_z w32 (of_z w32 asked.asked_row-row.result) in
    let back = to_z-of_z w32 asked.asked_row-row.result (record { sfits = asked.asked_row-row.type_inv }) ∙ asked.asked_row-row.ensures in
    let yes = sym allowed.taken.ensures ∙ allowed.if-taken.true in
    let taken = asked_in start.args.beat yes in
    still-taken row through back taken

pub returns-then-not-next_on_row : goal.returns-then-not-next_on_row
unfolding warped_by
returns-then-not-next_on_row c =
    let pauses = c in
    let alone = pauses in
    let next = alone in
    let inside = next in
    let warp = inside in
    let found = warp in
    let beat = found in
    let asked = beat in
    let allowed = asked in
    let start = allowed in
    let row = asked_row start.args.beat in
    let through = to_z w32 (of_z w32 asked.asked_row-row.result) in
    let back = to_z-of_z w32 asked.asked_row-row.result (record { sfits = asked.asked_row-row.type_inv }) ∙ asked.asked_row-row.ensures in
    let yes = sym allowed.taken.ensures ∙ allowed.if-taken.true in
    let taken = asked_in start.args.beat yes in
    let at = beat.beat_of_row-at.result in
    let covers = last-covers (warp_covers at) found.place_of-place.result (place_of at start.args.warp_beats.now) (row_key through) found.place_of-place.ensures start.args.warp_beats.now start.args.warp_lengths.now (sym warp.last_warp_covers.ensures ∙ inside.if-last_warp_covers.true) (ap not (sym next.next_on_row.ensures) ∙ alone.if-not-next_on_row.true-raw) in
    c.answered.ensures ∙ taken-row (warped_by (lists_at (goal.at.returns-then-not-next_on_row start).Start)) row (in_range (range_of Beat) start.args.beat) through back yes beat.beat_of_row-at.result beat.beat_of_row-at.ensures pauses.is_unpaused.result (sym (rw (covers, sym pauses.is_unpaused.ensures)))

pub returns-then-taken : goal.returns-then-taken
unfolding warped_by
returns-then-taken c =
    let outside = c in
    let warp = outside in
    let found = warp in
    let beat = found in
    let asked = beat in
    let allowed = asked in
    let start = allowed in
    let row = asked_row start.args.beat in
    let through = to_z w32 (of_z w32 asked.asked_row-row.result) in
    let back = to_z-of_z w32 asked.asked_row-row.result (record { sfits = asked.asked_row-row.type_inv }) ∙ asked.asked_row-row.ensures in
    let yes = sym allowed.taken.ensures ∙ allowed.if-taken.true in
    let taken = asked_in start.args.beat yes in
    let at = beat.beat_of_row-at.result in
    let covers = last_covers_nothing (warp_covers at) found.place_of-place.result (place_of at start.args.warp_beats.now) (row_key through) found.place_of-place.ensures start.args.warp_beats.now start.args.warp_lengths.now (elim outside.if-last_warp_covers.branch [
      | then-last_warp_covers+else-not-next_on_row p ↦ inl (ap not (sym p.next_on_row.ensures) ∙ p.if-not-next_on_row.false-raw)
      | else-last_warp_covers p ↦ inr (sym warp.last_warp_covers.ensures ∙ p.if-last_warp_covers.false)
    ]) in
    c.answered-then-taken.ensures ∙ taken-row (warped_by (lists_at (goal.at.returns-then-taken start).Start)) row (in_range (range_of Beat) start.args.beat) through back yes beat.beat_of_row-at.result beat.beat_of_row-at.ensures false (sym (rw covers))

pub returns : goal.returns
returns c =
    let start = c in
    refused-row (warped_by (lists_at (goal.at.returns start).Start)) (asked_row start.args.beat) (in_range (range_of Beat) start.args.beat) (sym c.taken.ensures ∙ c.if-taken.false)
