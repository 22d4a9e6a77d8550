-- `notes_displayed::get_displayed_beat` refuses, or walks to the beat. Assumes nothing.
use Rattle.std.proofs.Common.{sym, ◌∙◌, ne_eqb}
use lib.Ieee.{of_bits}
use Rattle.limits.proofs.NoRefusal.{lower-none}
use Rattle.notes_displayed.specs.Answers.{displayed, displayed_number, displayed_at}
use Rattle.notes_displayed.proofs.ScrollsTaken.{scrolls-taken}
use Rattle.notes_displayed.proofs.get_displayed_beat.Goals as goal

pub walk_to-requires : goal.walk_to-requires
walk_to-requires c =
    let lowest = c in
    let scrolls = lowest in
    (scrolls-taken (sym scrolls.scroll_columns_number-scrolls.ensures ∙ (lower-none _ _ (sym lowest.lower_of-number.ensures ∙ c.if-number-eq-TAKEN.true)).0)).0.even

pub returns-then-number-eq-TAKEN : goal.returns-then-number-eq-TAKEN
unfolding displayed_at displayed_number displayed
returns-then-number-eq-TAKEN c =
    let lowest = c in
    let scrolls = lowest in
    rw (← scrolls.scroll_columns_number-scrolls.ensures, ← lowest.beat_number.ensures, ← lowest.lower_of-number.ensures, c.if-number-eq-TAKEN.true, ← c.walk_to.ensures)

pub returns : goal.returns
unfolding displayed_at displayed_number displayed of_bits
returns c =
    let lowest = c in
    let scrolls = lowest in
    rw (← scrolls.scroll_columns_number-scrolls.ensures, ← lowest.beat_number.ensures, ← lowest.lower_of-number.ensures, ne_eqb _ 0 c.if-number-eq-TAKEN.false)
