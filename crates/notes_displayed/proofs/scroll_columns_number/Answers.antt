-- `notes_displayed::scroll_columns_number` is the number of the scrolls by themselves. Assumes nothing.
use Rattle.notes_displayed.specs.Answers.{scroll_columns_number}
use Rattle.picks.proofs.Rules.{flags}
use Rattle.notes_displayed.proofs.scroll_columns_number.Goals as goal

pub returns-then-never_fall : goal.returns-then-never_fall
unfolding scroll_columns_number
returns-then-never_fall c = rw (← c.list_number-number.ensures, ← c.never_fall.ensures) (search flags depth 8)

pub returns-then-number-eq-TAKEN : goal.returns-then-number-eq-TAKEN
unfolding scroll_columns_number
returns-then-number-eq-TAKEN c = rw (← c.list_number-number.ensures, ← c.never_fall.ensures) (search flags depth 8)

pub returns : goal.returns
unfolding scroll_columns_number
returns c = rw (← c.list_number-number.ensures) (search flags depth 8)
