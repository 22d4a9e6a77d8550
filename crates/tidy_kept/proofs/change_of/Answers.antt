-- `tidy_kept::change_of` meets its contract. Assumes nothing.
use Rattle.picks.proofs.Rules.{flags}
use Rattle.tidy_kept.proofs.ByFlags.{by_flags}
use Rattle.tidy_kept.proofs.change_of.Goals as goal

pub returns-then-at-gt-MOST_ENTRIES : goal.returns-then-at-gt-MOST_ENTRIES
returns-then-at-gt-MOST_ENTRIES c = rw by_flags (search flags depth 9)

pub returns-then-near_previous : goal.returns-then-near_previous
returns-then-near_previous c = rw (by_flags, c.cut_of-kept.ensures, c.place_before-last.ensures) (search flags depth 9)

pub returns-then-near_next : goal.returns-then-near_next
returns-then-near_next c = rw (by_flags, c.cut_of-kept.ensures, c.place_before-last.ensures) (search flags depth 9)

pub returns-then-near_previous-2 : goal.returns-then-near_previous-2
returns-then-near_previous-2 c = rw (by_flags, c.cut_of-kept.ensures, c.place_before-last.ensures) (search flags depth 9)

pub returns-then-near_last : goal.returns-then-near_last
returns-then-near_last c = rw by_flags (search flags depth 9)

pub returns-then-on_row : goal.returns-then-on_row
returns-then-on_row c = rw (by_flags, c.place_before-last.ensures) (search flags depth 9)

pub returns : goal.returns
returns c = rw by_flags (search flags depth 9)
